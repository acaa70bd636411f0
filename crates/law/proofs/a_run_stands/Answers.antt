use Rattle.law.proofs.ExamplesComputed.{a_run, burst_runs}
use Rattle.law.proofs.a_run_stands.Goals as goal

pub returns : goal.returns
returns c = record { short = a_run; burst = burst_runs }
