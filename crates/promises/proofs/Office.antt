-- The office's promise holds: what is written is the message of the load, its line
-- is read as that load, and a load that passes puts its key there.
-- Assumes nothing.
use Rattle.std.specs.Prelude.{Ok}
use mathlib.Core.Path.{◌≡◌, refl, sym, ap, ◌∙◌}
use mathlib.Core.Bool.{false, ◌&&◌, cond}
use mathlib.Core.List.{List, ◌++◌}
use Prim.Native.Nat.{ℕ, ◌^◌, ◌≤◌, ◌<◌}
use native.Mathlib.Omega.{arith}
use lib.ListN.{length, take, drop}
use lib.Seq.{take_at}
use borrow.Author.Tests.{eq-eqb, ne_eqb, le-ltb}
use Rattle.cells.proofs.PredicatesLaws.{neither}
use Rattle.rules.specs.Answer.{Answer}
use Rattle.rules.specs.declared.Granted.TheVariants.{Done}
use Rattle.rules.specs.Numbers.{uid_most}
use Rattle.rules.specs.Checks.{AllPass}
use Rattle.rules.specs.Answers.{accepted, number}
use Rattle.rules.specs.State.{State, key_encryption_key, namespace, key_tag}
use Rattle.rules.specs.Slots.{Contents, FitKey, Held, holding, IsSlot}
use Rattle.rules.specs.View.{view_of}
use Rattle.rules.specs.Ttlv.{AreBytes}
use Rattle.rules.specs.KmipMessage.{message_line}
use Rattle.rules.specs.Frames.{Frame, bad_uid_length}
use Rattle.rules.specs.Frames as frames
use Rattle.rules.specs.Order as order
use Rattle.rules.specs.Order.{Reads, frame_rule, frame_of, reading_checks, line_rule}
use Rattle.rules.specs.Call.{Called, call_checks, room_for}
use Rattle.rules.specs.History.{Event, touches, leaves, holds}
use Rattle.rules.proofs.ChecksLaws.{append_pass}
use Rattle.rules.proofs.StateLaws.{is_namespace_lem}
use Rattle.rules.proofs.EffectsLaws.{named_slot}
use Rattle.rules.proofs.MessageLineLaws.{message_line_loads}
use Rattle.kmip.specs.Writing.{Wrote, message_room, message_bytes}
use Rattle.kmip.proofs.LayingLaws.{written}
use Rattle.tuffaleen_c.specs.Office.{message_answer, message_length, CMessage, c_message}
use Rattle.promises.specs.Leaves.{CallLeaves, MessageLeaves}
use Rattle.promises.specs.Demands.{SinceStart, answered}
use Rattle.promises.specs.Office.{sent, LoadsWhatWasWritten, OfficeDemands}
use Rattle.promises.proofs.LeavesLaws.{message_is}
use Rattle.promises.proofs.Demands.{demands}

-- ------------------------------------------------------------------------
-- What is written, and the line that sends it

abbrev told : Wrote → CMessage
told w = record { number = number (message_answer w.result); bytes = message_length w.result; out = w.out }

module _ (ns tag : ℕ) (x : Contents) (out : List ℕ) (hn : ns < 2 ^ 8) (ht : tag < 2 ^ 16) (fit : FitKey x)
    (bu : AreBytes x.uid) (bk : AreBytes x.key) (room : message_room ≤ length out) (m : CMessage)
    (l : MessageLeaves ns tag x.uid x.key out m) where
  abbrev bytes : List ℕ
  bytes = message_bytes ns tag x.uid x.key

  good_uid : bad_uid_length (length x.uid) ≡ false
  good_uid =
      let some = fit.some in
      neither _ _ (ne_eqb (length x.uid) 0 (omega arith)) (le-ltb uid_most (length x.uid) fit.short)

  wrote : m ≡ told (record { result = Ok (length bytes); out = bytes ++ drop (length bytes) out })
  unfolding c_message
  wrote =
      message_is ns tag x.uid x.key out m l
      ∙ ap told (sym (written ns tag x.uid x.key out room fit.whole (length bytes) good_uid refl))

  sent_is : sent ns tag (take m.bytes m.out) ≡ message_line (namespace ns) (key_tag tag) x
  unfolding message_line
  sent_is =
      ap (λ (c : CMessage). sent ns tag (take c.bytes c.out)) wrote
      ∙ ap (sent ns tag) (take_at bytes (drop (length bytes) out) (length bytes) refl)

  reads : Reads (sent ns tag (take m.bytes m.out)) (frames.load (namespace ns) (key_tag tag) x)
  reads = rw sent_is (message_line_loads (namespace ns) (key_tag tag) x hn ht fit bu bk)

-- ------------------------------------------------------------------------
-- A line that is read as a load which passes

module _ (h : List Event) (s : State) (led : SinceStart h s) (ns tag : ℕ) (x : Contents) (line : List ℕ)
    (r : Reads line (frames.load (namespace ns) (key_tag tag) x)) (p : AllPass (order.load (view_of s) (namespace ns) (key_tag tag) x).checks)
    (room : List ℕ) (o : Called) (l : CallLeaves s line room o) (q : AllPass (call_checks s (room_for line) room)) where
  passes : AllPass (frame_rule (view_of s) (frame_of line)).checks
  unfolding frame_rule
  passes = rw r.1 p

  all_pass : AllPass (call_checks s (room_for line) room ++ (line_rule (view_of s) line).checks)
  unfolding line_rule
  all_pass =
      append_pass (call_checks s (room_for line) room) _ q (append_pass (reading_checks line) (frame_rule (view_of s) (frame_of line)).checks r.0 passes)

  done : o.answer ≡ Ok Done
  unfolding line_rule frame_rule order.load
  done = (demands.done_when s line room o l all_pass).0 ∙ ap (λ f. (frame_rule (view_of s) f).answer) r.1

  is_slot : IsSlot (namespace ns) (key_tag tag)
  unfolding order.load
  is_slot = named_slot s (demands.never_unsound h s led) (namespace ns) (key_tag tag) (is_namespace_lem (namespace ns) p.0) p.1.1.0

  after : (a : Answer) (f : Frame) (older : Held) → a ≡ Ok Done → f ≡ frames.load (namespace ns) (key_tag tag) x
      → cond (accepted a && touches (namespace ns) (key_tag tag) f) (leaves (key_encryption_key o.state) f) older ≡ holding x
  after a f older e g = rw (e, g, eq-eqb ns ns refl, eq-eqb tag tag refl) refl

  holds_it : (view_of o.state).slots (namespace ns) (key_tag tag) ≡ holding x
  unfolding holds
  holds_it =
      demands.slot_as_told _ o.state (answered h s led line room o l q) (namespace ns) (key_tag tag) is_slot
      ∙ after o.answer (frame_of line) (holds (key_encryption_key o.state) (namespace ns) (key_tag tag) h) done r.1

loads : LoadsWhatWasWritten
loads ns tag x out hn ht fit bu bk room m l = (
  ap (λ (c : CMessage). c.number) (wrote ns tag x out hn ht fit bu bk room m l),
  λ h s led p output o call q.
      let r = reads ns tag x out hn ht fit bu bk room m l in
      let line = sent ns tag (take m.bytes m.out) in
      (done h s led ns tag x line r p output o call q, holds_it h s led ns tag x line r p output o call q),
)

pub office_demands : OfficeDemands
office_demands = record { loads_what_was_written = loads }
