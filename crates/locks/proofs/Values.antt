-- The machine values of a pair of locks, of an answer, and of the pair or its refusal.
-- Assumes nothing.
use mathlib.Core.List.{List}
use Rattle.std.specs.Prelude.{Result}
use mir.Val.{Val}
use denote.Struct.Laws as LL
use denote.Enum.Laws as EL
use Rattle.std.specs.contracts.result.Result as R
use Rattle.std.proofs.result.Result.TheLaws as R'
use Rattle.rules.specs.declared.BootLocks.{BootLocks}
use Rattle.rules.specs.declared.Refusal.{Refusal}
use Rattle.rules.specs.Answer.{Answer}
use Rattle.rules.specs.contracts.BootLocks as T
use Rattle.rules.proofs.BootLocks.TheLaws as T'
use Rattle.rules.specs.contracts.Granted as G
use Rattle.rules.proofs.Granted.TheLaws as G'
use Rattle.rules.specs.contracts.Refusal as F
use Rattle.rules.proofs.Refusal.TheLaws as F'

abbrev pub pair : BootLocks → List Val
pair = LL.vals T.the_type T'.the_laws

abbrev pub reply : Answer → List Val
reply = EL.vals (R.the_type G.the_row F.the_row) (R'.the_laws G.the_row F.the_row G'.the_row_laws F'.the_row_laws G'.the_told F'.the_told)

-- of what `decide` and `set_features` give
abbrev pub both : Result BootLocks Refusal → List Val
both = EL.vals (R.the_type T.the_row F.the_row) (R'.the_laws T.the_row F.the_row T'.the_row_laws F'.the_row_laws T'.the_told F'.the_told)
