-- `boot_write` meets its contract: the locks crate judges the same checks.
-- Assumes nothing.
use Rattle.std.proofs.Common.{[], ◌∷◌, ap, ◌∙◌, ltb, not, Ok, Err}
use Rattle.rules.specs.Answer.{Answer}
use Rattle.rules.specs.declared.Granted.TheVariants.{Done}
use Rattle.rules.specs.declared.Lock.TheVariants.{WriteUnlocked}
use Rattle.rules.specs.Checks.{◌when◌}
use Rattle.rules.specs.Answers.{00·02, 01·1E}
use Rattle.rules.specs.State.{Outcome}
use Rattle.rules.specs.Locks.{partition, same_lock}
use Rattle.rules.specs.Order.{boot_write}
use Rattle.rules.proofs.ChecksLaws.{judged_map}
use Rattle.locks.specs.Deciding.{boot_written}
use Rattle.drive.specs.Acting.{after}
use Rattle.drive.proofs.boot.boot_write.Goals as goal

pub returns : goal.returns
unfolding boot_written boot_write
returns c =
    λ keys marks.
    let a = c.args in
    let d = a.registers.now in
    let left : Answer → Outcome = λ x. after x d keys marks in
    ap left c.boot_write.ensures
    ∙ judged_map (00·02 when ltb 1 a.partition ∷ 01·1E when not (same_lock (partition a.partition d.locks) WriteUnlocked) ∷ []) left Err (Ok Done)
