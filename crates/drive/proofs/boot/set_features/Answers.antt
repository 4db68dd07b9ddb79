-- `set_features` meets its contract: the locks crate judges the same checks.
-- Assumes nothing.
use Rattle.std.proofs.Common.{Ok, Err, Result}
use Rattle.std.specs.Prelude.{[], ◌∷◌}
use Rattle.std.specs.Result.{result_unwrap_or}
use Rattle.rules.specs.declared.BootLocks.{BootLocks}
use Rattle.rules.specs.declared.Refusal.{Refusal}
use Rattle.rules.specs.Checks.{◌when◌}
use Rattle.rules.specs.Answers.{00·02, 01·0E}
use Rattle.rules.specs.State.{Outcome}
use Rattle.rules.specs.Locks.{invalid_fields, not_changeable, changed}
use Rattle.rules.specs.Order.{set_features}
use Rattle.rules.proofs.ChecksLaws.{judged_map}
use Rattle.locks.specs.Deciding.{decided, told}
use Rattle.drive.specs.Acting.{after}
use Rattle.drive.proofs.boot.set_features.Goals as goal

pub returns : goal.returns
unfolding decided set_features
returns c =
    λ keys marks.
    let d = c.args.registers.now in
    let w = c.args.dword11 in
    let left : Result BootLocks Refusal → Outcome =
    λ x. after (told x) (record { counts = d.counts; locks = result_unwrap_or x d.locks }) keys marks in
    rw (c.set_locks.ensures.0, c.set_locks.ensures.1)
    (judged_map (00·02 when invalid_fields w ∷ 01·0E when not_changeable d.locks w ∷ []) left Err (Ok (changed d.locks w)))
