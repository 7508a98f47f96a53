pub mod UnderWay
pub mod WholeMessages
pub mod Logs
