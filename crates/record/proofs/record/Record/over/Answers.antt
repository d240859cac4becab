use Rattle.record.specs.Limits.{limits_last}
use Rattle.record.proofs.record.Record.over.Goals as goal

pub returns-clause-keeps_its_limits : goal.returns-clause-keeps_its_limits
returns-clause-keeps_its_limits c = λ e. limits_last _ e
