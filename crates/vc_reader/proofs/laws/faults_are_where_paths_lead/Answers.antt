use Rattle.vc_reader.proofs.ToldPlan.{faults_lead}
use Rattle.vc_reader.proofs.laws.faults_are_where_paths_lead.Goals as goal

pub returns : goal.returns
returns c = faults_lead
