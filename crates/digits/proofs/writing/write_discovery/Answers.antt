-- `write_discovery` meets its contract: the response stands behind the number 0000, and both are the answer's bytes.
-- Assumes nothing.
use Rattle.std.proofs.Common.{◌≡◌, [], ◌∷◌, ◌++◌, length, sym, ap, ◌∙◌}
use Rattle.std.specs.Prelude.{Ok}
use Rattle.cells.specs.Cells.{zeros}
use Rattle.rules.specs.declared.Granted.TheVariants.{Discovery}
use Rattle.rules.specs.Answers.{answer_bytes}
use Rattle.rules.specs.Discovering.{Responded}
use Rattle.digits.proofs.WritingLaws.{discovery_bytes, discovery_length}
use Rattle.digits.proofs.writing.write_discovery.Goals as goal

pub slice_bounds-write_line-end : goal.slice_bounds-write_line-end
unfolding zeros
slice_bounds-write_line-end c =
    let bytes : (answer_bytes (Ok Discovery) ≡ 0 ∷ 0 ∷ (c.write.new.out ++ [])) =
    discovery_bytes c.own_fields-fields.result c.write.new.out c.own_fields-fields.ensures (ap (λ (w : Responded). w.out) c.write.ensures) in
    sym discovery_length ∙ ap length bytes

pub returns : goal.returns
unfolding zeros
returns c =
    let bytes : (answer_bytes (Ok Discovery) ≡ 0 ∷ 0 ∷ (c.write.new.out ++ [])) =
    discovery_bytes c.own_fields-fields.result c.write.new.out c.own_fields-fields.ensures (ap (λ (w : Responded). w.out) c.write.ensures) in
    c.write_line.ensures (Ok Discovery) bytes
