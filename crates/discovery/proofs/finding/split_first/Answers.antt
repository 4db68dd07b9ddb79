-- `split_first` meets its contract: a head or a length that runs past, or a whole feature and what is behind it.
-- Assumes nothing.
use Rattle.std.proofs.Common.{ℕ, List, refl, ap, ◌∙◌, get_or-take, arith}
use Rattle.rules.specs.Fields.{byte}
use Rattle.rules.proofs.FeaturesLaws.{head_past}
use Rattle.discovery.proofs.WalkingLaws.{split}
use Rattle.discovery.proofs.finding.split_first.Goals as goal

pub returns-in_default : goal.returns-in_default
returns-in_default c = (refl, λ some. head_past _ some c.in_default.ensures.cases)

pub returns : goal.returns
returns c =
    let d = c.args.features.now in
    let head = c.in-Some.ensures.cases in
    let length_at = c.from.ensures ∙ ap (λ (l : List ℕ). byte 3 l) head.same ∙ get_or-take 4 d 3 0 (omega arith) in
    rw c.ok_or.ensures.value (split d head.enough _ length_at _ c.split_at_checked.ensures.cases)
