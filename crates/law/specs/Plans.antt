-- The plan of the kit, as the law has it.
use Rattle.plan.specs.Weights.{weight_of}
use Rattle.plan.specs.declared.table.Plan as kit
use Rattle.law.specs.Step.{Plan}

abbrev pub plan_of : kit.Plan → Plan
plan_of p = record { ports = p.size.ports; longest = p.size.longest; parts = p.size.parts; weight = weight_of p }
