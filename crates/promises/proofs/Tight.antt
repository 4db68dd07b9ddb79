-- Every public contract is tight: it asks nothing, and two outcomes that it
-- allows both equal what a definition gives for the entry values.
-- Assumes nothing.
use Rattle.std.specs.Prelude.{Result}
use mathlib.Core.Path.{◌≡◌, sym, ap, ◌∙◌}
use mathlib.Core.Bool.{Bool}
use mathlib.Core.List.{List}
use base.Logic.{emp, id⊢}
use contract.Monad.{conj_l, conj_r, fact_use, fact_i}
use Prim.Native.Nat.{ℕ}
use Rattle.rules.specs.Answer.{Answer}
use Rattle.rules.specs.declared.Refusal.{Refusal}
use Rattle.rules.specs.declared.BootLocks.{BootLocks}
use Rattle.rules.specs.State.{Outcome}
use Rattle.rules.specs.Call.{Called as CallLeft}
use Rattle.rules.specs.Sessions.{Session as SessionLeft}
use Rattle.rules.specs.Discovering.{Responded}
use Rattle.digits.specs.Digits.{ReadInto, Wrote}
use Rattle.wrap.specs.Wrapping.{Opening}
use Rattle.drive.specs.declared.Answered.{Answered}
use Rattle.drive.specs.declared.Reply.{Reply}
use Rattle.drive.specs.declared.SessionReply.{SessionReply}
use Rattle.frames.specs.declared.FrameRead.{FrameRead}
use Rattle.frames.specs.Reading.{ReadFrom}
use Rattle.tuffaleen_c.specs.Image.{CStarted, CCalled, CSession}
use Rattle.tuffaleen_c.specs.Host.{CDiscovery}
use Rattle.tuffaleen_c.specs.Office.{CMessage}
use Rattle.tuffaleen_c.specs.Courier.{CUnwrapped}
use Rattle.ttlv.specs.Listing as listing
use Rattle.ttlv.specs.Writing as writing
use Rattle.kmip.specs.Reading.{Told}
use Rattle.kmip.specs.Writing.{Wrote as MessageWrote}
use Rattle.promises.specs.Tight.{Tight-tuffaleen-c-start, Tight-tuffaleen-c-line, Tight-tuffaleen-c-session}
use Rattle.promises.specs.Tight.{Tight-cells-fill-zero, Tight-cells-copy, Tight-cells-equal, Tight-cells-all-zero, Tight-cells-zero-part}
use Rattle.promises.specs.Tight.{Tight-cells-same-part}
use Rattle.promises.specs.Tight.{Tight-aes-sub-table, Tight-aes-inv-sub-table, Tight-aes-mix-table, Tight-aes-inv-mix-table}
use Rattle.promises.specs.Tight.{Tight-aes-word-at, Tight-aes-put-word, Tight-aes-expand, Tight-aes-unmix, Tight-aes-wipe}
use Rattle.promises.specs.Tight.{Tight-aes-cipher-by, Tight-aes-inv-cipher-by, Tight-aes-cipher, Tight-aes-inv-cipher}
use Rattle.promises.specs.Tight.{Tight-wrap-wrap, Tight-wrap-unwrap}
use Rattle.promises.specs.Tight.{Tight-discovery-own-fields, Tight-discovery-write, Tight-discovery-read, Tight-tuffaleen-c-discovery}
use Rattle.promises.specs.Tight.{Tight-tuffaleen-c-message, Tight-tuffaleen-c-wrap, Tight-tuffaleen-c-unwrap}
use Rattle.promises.specs.Tight.{Tight-ttlv-item-at, Tight-ttlv-sound, Tight-ttlv-read, Tight-ttlv-write, Tight-kmip-read, Tight-kmip-write}
use Rattle.promises.specs.Tight.{Tight-digits-read-line, Tight-digits-number, Tight-digits-write-answer}
use Rattle.promises.specs.Tight.{Tight-slots-loaded, Tight-slots-holds-uid, Tight-slots-other-key-allocated, Tight-sound-unsound, Tight-slots-store}
use Rattle.promises.specs.Tight.{Tight-slots-clear, Tight-slots-clear-all, Tight-slots-clear-up-to, Tight-slots-clear-allocated}
use Rattle.promises.specs.Tight.{Tight-marks-some-differs, Tight-marks-mark, Tight-marks-zero-namespace}
use Rattle.promises.specs.Tight.{Tight-locks-decide, Tight-locks-shown, Tight-locks-lock-value, Tight-locks-boot-write, Tight-locks-both-locked}
use Rattle.promises.specs.Tight.{Tight-locks-set-features, Tight-locks-set-locks}
use Rattle.promises.specs.Tight.{Tight-drive-start, Tight-drive-answer-line, Tight-drive-answer-session}
use Rattle.promises.specs.Tight.{Tight-frames-read}

-- the law: what two outcomes both equal, they share
one : {A : Type 0} {x y z : A} → x ≡ z → y ≡ z → x ≡ y
one p q = p ∙ sym q

-- and so do pairs of such
both : {A B : Type 0} {a a' : A} {b b' : B} → a ≡ a' → b ≡ b' → ◌≡◌ {A = A × B} (a, b) (a', b')
both p q = λ i. (p i, q i)

opening : {o o' : Opening} {w w' : List ℕ} → o ≡ o' → w ≡ w'
    → ◌≡◌ {A = Bool × (List ℕ × List ℕ)} (o.opened, (o.bytes, w)) (o'.opened, (o'.bytes, w'))
opening p q = λ i. ((p i).opened, ((p i).bytes, q i))

pub tight_cells_fill_zero : Tight-cells-fill-zero
tight_cells_fill_zero = (λ κs args. tt, λ κs args r r' e e' p q. one p q)

pub tight_cells_copy : Tight-cells-copy
tight_cells_copy = (λ κs args. tt, λ κs args r r' e e' p q. one p q)

pub tight_cells_equal : Tight-cells-equal
tight_cells_equal = (λ κs args. tt, λ κs args r r' e e' p q. one p q)

pub tight_cells_all_zero : Tight-cells-all-zero
tight_cells_all_zero = (λ κs args. tt, λ κs args r r' e e' p q. one p q)

pub tight_cells_zero_part : Tight-cells-zero-part
tight_cells_zero_part = (λ κs args. tt, λ κs args r r' e e' p q. one p q)

pub tight_cells_same_part : Tight-cells-same-part
tight_cells_same_part = (λ κs args. tt, λ κs args r r' e e' p q. one p q)

pub tight_aes_sub_table : Tight-aes-sub-table
tight_aes_sub_table = (λ κs args. tt, λ κs args r r' e e' p q. one p q)

pub tight_aes_inv_sub_table : Tight-aes-inv-sub-table
tight_aes_inv_sub_table = (λ κs args. tt, λ κs args r r' e e' p q. one p q)

pub tight_aes_mix_table : Tight-aes-mix-table
tight_aes_mix_table = (λ κs args. tt, λ κs args r r' e e' p q. one p q)

pub tight_aes_inv_mix_table : Tight-aes-inv-mix-table
tight_aes_inv_mix_table = (λ κs args. tt, λ κs args r r' e e' p q. one p q)

pub tight_aes_word_at : Tight-aes-word-at
tight_aes_word_at = (λ κs args. tt, λ κs args r r' e e' p q. one p q)

pub tight_aes_put_word : Tight-aes-put-word
tight_aes_put_word = (λ κs args. tt, λ κs args r r' e e' p q. one p q)

pub tight_aes_expand : Tight-aes-expand
tight_aes_expand = (λ κs args. tt, λ κs args r r' e e' p q. one p q)

pub tight_aes_unmix : Tight-aes-unmix
tight_aes_unmix = (λ κs args. tt, λ κs args r r' e e' p q. one p q)

pub tight_aes_wipe : Tight-aes-wipe
tight_aes_wipe = (λ κs args. tt, λ κs args r r' e e' p q. one p q)

pub tight_aes_cipher_by : Tight-aes-cipher-by
tight_aes_cipher_by = (λ κs args. tt, λ κs args r r' e e' p q. one p q)

pub tight_aes_inv_cipher_by : Tight-aes-inv-cipher-by
tight_aes_inv_cipher_by = (λ κs args. tt, λ κs args r r' e e' p q. one p q)

pub tight_aes_cipher : Tight-aes-cipher
tight_aes_cipher = (λ κs args. tt, λ κs args r r' e e' p q. both (one p.0 q.0) (one p.1 q.1))

pub tight_aes_inv_cipher : Tight-aes-inv-cipher
tight_aes_inv_cipher = (λ κs args. tt, λ κs args r r' e e' p q. both (one p.0 q.0) (one p.1 q.1))

pub tight_wrap_wrap : Tight-wrap-wrap
tight_wrap_wrap = (λ κs args. tt, λ κs args r r' e e' p q. both (one p.0 q.0) (one p.1 q.1))

pub tight_wrap_unwrap : Tight-wrap-unwrap
tight_wrap_unwrap = (λ κs args. tt, λ κs args r r' e e' p q. opening (one p.0 q.0) (one p.1 q.1))

pub tight_discovery_own_fields : Tight-discovery-own-fields
tight_discovery_own_fields = (λ κs args. tt, λ κs args r r' e e' p q. one p q)

pub tight_discovery_write : Tight-discovery-write
tight_discovery_write = (λ κs args. tt, λ κs args r r' e e' p q. ap (λ (w : Responded). (w.answer, w.out)) (one p q))

pub tight_discovery_read : Tight-discovery-read
tight_discovery_read = (λ κs args. tt, λ κs args r r' e e' p q. one p q)

pub tight_ttlv_item_at : Tight-ttlv-item-at
tight_ttlv_item_at = (λ κs args. tt, λ κs args r r' e e' p q. one p q)

pub tight_ttlv_sound : Tight-ttlv-sound
tight_ttlv_sound = (λ κs args. tt, λ κs args r r' e e' p q. one p q)

pub tight_ttlv_read : Tight-ttlv-read
tight_ttlv_read = (λ κs args. tt, λ κs args r r' e e' p q. ap (λ (w : listing.Reading). (w.result, w.places)) (one p q))

pub tight_ttlv_write : Tight-ttlv-write
tight_ttlv_write = (λ κs args. tt, λ κs args r r' e e' p q. ap (λ (w : writing.Wrote). (w.result, w.out)) (one p q))

pub tight_kmip_read : Tight-kmip-read
tight_kmip_read = (λ κs args. tt, λ κs args r r' e e' p q. ap (λ (w : Told). (w.result, w.out)) (one p q))

pub tight_kmip_write : Tight-kmip-write
tight_kmip_write = (λ κs args. tt, λ κs args r r' e e' p q. ap (λ (w : MessageWrote). (w.result, w.out)) (one p q))

pub tight_digits_read_line : Tight-digits-read-line
tight_digits_read_line = (λ κs args. tt, λ κs args r r' e e' p q. ap (λ (w : ReadInto). (w.read, w.frame)) (one p q))

pub tight_digits_number : Tight-digits-number
tight_digits_number = (λ κs args. tt, λ κs args r r' e e' p q. one p q)

pub tight_digits_write_answer : Tight-digits-write-answer
tight_digits_write_answer = (λ κs args. tt, λ κs args r r' e e' p q. ap (λ (w : Wrote). (w.bytes, w.out)) (one p q))

both_read : {w v : ReadFrom} {b c : List ℕ} → w ≡ v → b ≡ c
    → ◌≡◌ {A = Result FrameRead Refusal × (List ℕ × List ℕ)} (w.read, (w.frame, b)) (v.read, (v.frame, c))
both_read e f = cc

pub tight_frames_read : Tight-frames-read
tight_frames_read = (λ κs args. tt, λ κs args r r' e e' p q. both_read (one p.0 q.0) (one p.1 q.1))

pub tight_slots_loaded : Tight-slots-loaded
tight_slots_loaded = (λ κs args. tt, λ κs args r r' e e' p q. one p q)

pub tight_slots_holds_uid : Tight-slots-holds-uid
tight_slots_holds_uid = (λ κs args. tt, λ κs args r r' e e' p q. one p q)

pub tight_slots_other_key_allocated : Tight-slots-other-key-allocated
tight_slots_other_key_allocated = (λ κs args. tt, λ κs args r r' e e' p q. one p q)

pub tight_sound_unsound : Tight-sound-unsound
tight_sound_unsound = (λ κs args. tt, λ κs args r r' e e' p q. one p q)

pub tight_slots_store : Tight-slots-store
tight_slots_store = (λ κs args. tt, λ κs args r r' e e' p q. one p q)

pub tight_slots_clear : Tight-slots-clear
tight_slots_clear = (λ κs args. tt, λ κs args r r' e e' p q. one p q)

pub tight_slots_clear_all : Tight-slots-clear-all
tight_slots_clear_all = (λ κs args. tt, λ κs args r r' e e' p q. one p q)

pub tight_slots_clear_up_to : Tight-slots-clear-up-to
tight_slots_clear_up_to = (λ κs args. tt, λ κs args r r' e e' p q. one p q)

pub tight_slots_clear_allocated : Tight-slots-clear-allocated
tight_slots_clear_allocated = (λ κs args. tt, λ κs args r r' e e' p q. one p q)

pub tight_marks_some_differs : Tight-marks-some-differs
tight_marks_some_differs = (λ κs args. tt, λ κs args r r' e e' p q. one p q)

pub tight_marks_mark : Tight-marks-mark
tight_marks_mark = (λ κs args. tt, λ κs args r r' e e' p q. one p q)

pub tight_marks_zero_namespace : Tight-marks-zero-namespace
tight_marks_zero_namespace = (λ κs args. tt, λ κs args r r' e e' p q. one p q)

pub tight_locks_decide : Tight-locks-decide
tight_locks_decide = (λ κs args. tt, λ κs args r r' e e' p q. one p q)

pub tight_locks_shown : Tight-locks-shown
tight_locks_shown = (λ κs args. tt, λ κs args r r' e e' p q. one p q)

pub tight_locks_lock_value : Tight-locks-lock-value
tight_locks_lock_value = (λ κs args. tt, λ κs args r r' e e' p q. one p q)

pub tight_locks_boot_write : Tight-locks-boot-write
tight_locks_boot_write = (λ κs args. tt, λ κs args r r' e e' p q. one p q)

pub tight_locks_both_locked : Tight-locks-both-locked
tight_locks_both_locked = (λ κs args. tt, λ κs args r r' e e' p q. one p q)

pub tight_locks_set_locks : Tight-locks-set-locks
tight_locks_set_locks w κs args = (
  id⊢ w.𝓤 (emp w.𝓤),
  λ r r' e e'. fact_use w.𝓤 _ (conj_l w.𝓤 _ _) (λ p. fact_use w.𝓤 _ (conj_r w.𝓤 _ _)
      (λ q. fact_i w.𝓤 _ _ (same (one p.0 q.0) (one p.1 q.1)))),
)
  where
    same : {a a' : Answer} {b b' : BootLocks} → a ≡ a' → b ≡ b' → ◌≡◌ {A = Answer × BootLocks} (a, b) (a', b')
    same p q = cc

pub tight_locks_set_features : Tight-locks-set-features
tight_locks_set_features = (λ κs args. tt, λ κs args r r' e e' p q. one p q)

abbrev start_left : Outcome → Answered × (List ℕ × List ℕ)
start_left o = (record { answer = o.answer; registers = o.state.registers }, (o.state.keys, o.state.marks))

abbrev call_left : CallLeft → Reply × (List ℕ × (List ℕ × List ℕ))
call_left c = (record { answer = c.answer; registers = c.state.registers; bytes = c.bytes }, (c.state.keys, (c.state.marks, c.out)))

abbrev session_left : SessionLeft → SessionReply × (List ℕ × (List ℕ × List ℕ))
session_left c =
    (record { result = c.result; registers = c.state.registers; lines = c.lines; bytes = c.bytes }, (c.state.keys, (c.state.marks, c.out)))

pub tight_drive_start : Tight-drive-start
tight_drive_start = (λ κs args. tt, λ κs args r r' e e' p q. ap start_left (one p q))

pub tight_drive_answer_line : Tight-drive-answer-line
tight_drive_answer_line = (λ κs args. tt, λ κs args r r' e e' p q. ap call_left (one p q))

pub tight_drive_answer_session : Tight-drive-answer-session
tight_drive_answer_session = (λ κs args. tt, λ κs args r r' e e' p q. ap session_left (one p q))

pub tight_tuffaleen_c_start : Tight-tuffaleen-c-start
tight_tuffaleen_c_start = (λ κs args. tt, λ κs args r r' e e' p q. ap (λ (c : CStarted). (c.number, (c.image, c.marks))) (one p q))

pub tight_tuffaleen_c_line : Tight-tuffaleen-c-line
tight_tuffaleen_c_line =
    (λ κs args. tt, λ κs args r r' e e' p q. ap (λ (c : CCalled). (c.number, (c.image, (c.marks, (c.out, c.bytes))))) (one p q))

pub tight_tuffaleen_c_session : Tight-tuffaleen-c-session
tight_tuffaleen_c_session =
    (λ κs args. tt, λ κs args r r' e e' p q. ap (λ (c : CSession). (c.number, (c.image, (c.marks, (c.out, (c.lines, c.bytes)))))) (one p q))

pub tight_tuffaleen_c_discovery : Tight-tuffaleen-c-discovery
tight_tuffaleen_c_discovery = (λ κs args. tt, λ κs args r r' e e' p q. ap (λ (c : CDiscovery). (c.number, c.fields)) (one p q))

pub tight_tuffaleen_c_message : Tight-tuffaleen-c-message
tight_tuffaleen_c_message = (λ κs args. tt, λ κs args r r' e e' p q. ap (λ (c : CMessage). (c.number, (c.bytes, c.out))) (one p q))

pub tight_tuffaleen_c_wrap : Tight-tuffaleen-c-wrap
tight_tuffaleen_c_wrap = (λ κs args. tt, λ κs args r r' e e' p q. both (one p.0 q.0) (one p.1 q.1))

pub tight_tuffaleen_c_unwrap : Tight-tuffaleen-c-unwrap
tight_tuffaleen_c_unwrap =
    (λ κs args. tt, λ κs args r r' e e' p q. both (ap (λ (c : CUnwrapped). (c.number, c.bytes)) (one p.0 q.0)) (one p.1 q.1))
