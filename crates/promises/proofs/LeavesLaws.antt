-- What start, the call, the session, discovery's writer and reader, those of item
-- lists, and the three calls from C for an office and a courier leave is what the
-- definitions say: their contracts, at the values that went in.
-- Assumes nothing.
use Rattle.std.specs.Prelude.{Result}
use mathlib.Core.Path.{◌≡◌, ap, ◌∙◌}
use mathlib.Core.List.{List}
use Prim.Native.Nat.{ℕ}
use Rattle.rules.specs.State.{State, Outcome}
use Rattle.rules.specs.Start.{start}
use Rattle.rules.specs.Call.{Called, call}
use Rattle.rules.specs.Sessions.{Session, session}
use Rattle.rules.specs.declared.Refusal.{Refusal}
use Rattle.rules.specs.declared.DiscoveryFields.{DiscoveryFields}
use Rattle.rules.specs.declared.Discovered.{Discovered}
use Rattle.rules.specs.Discovering.{Responded, respond, discovered}
use lib.ListN.{drop}
use Rattle.rules.specs.KeyWrap.{wrap}
use Rattle.tuffaleen_c.specs.Office.{CMessage, c_message}
use Rattle.tuffaleen_c.specs.Courier.{CUnwrapped, c_unwrap}
use Rattle.ttlv.specs.Listing.{Reading, read_list}
use Rattle.ttlv.specs.Writing.{Wrote, write_list}
use Rattle.promises.specs.Leaves.{MessageLeaves, WrapLeaves, UnwrapLeaves, ListReadLeaves, ListWriteLeaves}
use Rattle.promises.specs.Leaves.{StartLeaves, CallLeaves, SessionLeaves, ResponseLeaves, ReadFinds}

all_same : {A B C D : Type 0} (f : A → B → C → D) {a a' : A} {b b' : B} {c c' : C} → a ≡ a' → b ≡ b' → c ≡ c'
    → f a b c ≡ f a' b' c'
all_same f p q r = cc

both_same : {A B D : Type 0} (f : A → B → D) {a a' : A} {b b' : B} → a ≡ a' → b ≡ b' → f a b ≡ f a' b'
both_same f p q = cc

pub start_is : (kek keys store : List ℕ) (o : Outcome) → StartLeaves kek keys store o → o ≡ start kek keys store
start_is kek keys store o l =
    let e = l.on_kek in
    let f = l.on_cache in
    let g = l.on_store in
    l.leaves ∙ l.run.meets ∙ (λ i. start (e i) (f i) (g i))

pub call_is : (s : State) (line out : List ℕ) (o : Called) → CallLeaves s line out o → o ≡ call s line out
call_is s line out o l = l.leaves ∙ l.run.meets ∙ all_same call l.on_state l.on_line l.on_out

pub session_is : (s : State) (text out : List ℕ) (o : Session) → SessionLeaves s text out o → o ≡ session s text out
session_is s text out o l = l.leaves ∙ l.run.meets ∙ all_same session l.on_state l.on_text l.on_out

pub response_is : (f : DiscoveryFields) (out : List ℕ) (o : Responded) → ResponseLeaves f out o → o ≡ respond f out
response_is f out o l = l.leaves ∙ l.run.meets ∙ both_same respond l.on_fields l.on_out

pub finding_is : (d : List ℕ) (o : Result Discovered Refusal) → ReadFinds d o → o ≡ discovered d
finding_is d o l = l.leaves ∙ l.run.meets ∙ ap discovered l.on_bytes

pub reading_is : (xs places : List ℕ) (o : Reading) → ListReadLeaves xs places o → o ≡ read_list xs places
reading_is xs places o l = l.leaves ∙ l.run.meets ∙ both_same read_list l.on_bytes l.on_places

four_same : {A B C D E : Type 0} (f : A → B → C → D → E) {a a' : A} {b b' : B} {c c' : C} {d d' : D}
    → a ≡ a' → b ≡ b' → c ≡ c' → d ≡ d' → f a b c d ≡ f a' b' c' d'
four_same f p q r s = cc

pub writing_is : (items : List ℕ) (count : ℕ) (values out : List ℕ) (o : Wrote) → ListWriteLeaves items count values out o
    → o ≡ write_list items count values out
writing_is items count values out o l = l.leaves ∙ l.run.meets ∙ four_same write_list l.on_items l.on_count l.on_values l.on_out

pub wrapped_is : (kek bytes left : List ℕ) → WrapLeaves kek bytes left → left ≡ wrap kek (drop 8 bytes)
wrapped_is kek bytes left l = l.leaves ∙ l.run.meets.0 ∙ both_same (λ k b. wrap k (drop 8 b)) l.on_kek l.on_bytes

pub unwrapped_is : (kek bytes : List ℕ) (o : CUnwrapped) → UnwrapLeaves kek bytes o → o ≡ c_unwrap kek bytes
unwrapped_is kek bytes o l = l.leaves ∙ l.run.meets.0 ∙ both_same c_unwrap l.on_kek l.on_bytes

five_same : {A B C D E F : Type 0} (f : A → B → C → D → E → F) {a a' : A} {b b' : B} {c c' : C} {d d' : D} {e e' : E}
    → a ≡ a' → b ≡ b' → c ≡ c' → d ≡ d' → e ≡ e' → f a b c d e ≡ f a' b' c' d' e'
five_same f p q r s t = cc

pub message_is : (ns tag : ℕ) (uid key out : List ℕ) (o : CMessage) → MessageLeaves ns tag uid key out o → o ≡ c_message ns tag uid key out
message_is ns tag uid key out o l =
    l.leaves ∙ l.run.meets ∙ five_same c_message l.on_namespace l.on_tag l.on_uid l.on_key l.on_out
