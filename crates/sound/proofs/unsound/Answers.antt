-- `unsound` meets its contract: the cache's length, then the counts, then the slots.
-- Assumes nothing.
use borrow.Author.Rules.{rules}
use native.Mathlib.Omega.{arith}
use mathlib.Core.Path.{◌≡◌, sym, ap, ◌∙◌}
use Prim.Native.Nat.{◌/◌}
use lib.ListN.{length}
use Rattle.std.specs.Simd.{first_chunks}
use Rattle.rules.specs.Numbers.{slot_width, slot_places}
use Rattle.sound.specs.Scan.{some_namespace_unsound}
use Rattle.rules.specs.Sound.{unsound as isUnsound}
use Rattle.rules.proofs.StateLaws.{wrong_cache_lem}
use Rattle.sound.proofs.ScanLaws.{unsound_counts, unsound_slots, slots_are}
use Rattle.sound.proofs.unsound.Goals as goal

pub returns-then-keys-ne-CACHE_SIZE : goal.returns-then-keys-ne-CACHE_SIZE
unfolding isUnsound
returns-then-keys-ne-CACHE_SIZE c =
    rw (wrong_cache_lem c.args.keys.now c.if-keys-ne-CACHE_SIZE.true)

pub returns-then-counts_unsound : goal.returns-then-counts_unsound
returns-then-counts_unsound c =
    c.if-counts_unsound.true ∙ sym (unsound_counts _ c.if-keys-ne-CACHE_SIZE.false (sym c.counts_unsound.ensures ∙ c.if-counts_unsound.true))

pub returns-else-counts_unsound : goal.returns-else-counts_unsound
returns-else-counts_unsound c =
    let counts = c.args.registers.counts in
    let size = c.if-keys-ne-CACHE_SIZE.false in
    let n : length c.args.keys.now / slot_width ≡ slot_places = omega arith in
    let slots : c.as_chunks.result.0.now ≡ first_chunks slot_width slot_places c.args.keys.now =
    c.as_chunks.ensures.front ∙ ap (λ k. first_chunks slot_width k c.args.keys.now) n in
    c.slots_unsound.ensures
    ∙ ap (some_namespace_unsound counts) slots
    ∙ slots_are counts c.args.keys.now (search rules)
    ∙ sym (unsound_slots _ size (sym c.counts_unsound.ensures ∙ c.if-counts_unsound.false))
