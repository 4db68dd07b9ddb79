-- "How tight the contracts are": for every input a public function's contract
-- leaves one possible result, state, mark store and output, refusals too; and no
-- caller is asked to check first. Stated for every public function, crate by
-- crate; proofs/Tight.antt has a proof of each.
-- Assumes nothing.
use Rattle.std.specs.Prelude.{◌≡◌, Bool, List, ℕ, Option, Result}
use base.Logic.{ent, emp}
use contract.Monad.{conj, fact}
use contract.Lifetimes.{Lfts}
use denote.Triple.Clauses.{Clauses, AtExit}
use borrow.Fn.World.{World, ArgsD}
use Rattle.rules.specs.Answer.{Answer}
use Rattle.rules.specs.declared.BootLocks.{BootLocks}
use Rattle.rules.specs.declared.BadLine.{BadLine}
use Rattle.rules.specs.declared.Refusal.{Refusal}
use Rattle.rules.specs.declared.DiscoveryFields.{DiscoveryFields}
use Rattle.rules.specs.declared.Discovered.{Discovered}
use Rattle.frames.specs.declared.FrameRead.{FrameRead}
use Rattle.drive.specs.declared.Answered.{Answered}
use Rattle.drive.specs.declared.Reply.{Reply}
use Rattle.drive.specs.declared.SessionReply.{SessionReply}
use Rattle.cells.proofs.fill_zero.Reads as cells-fill-zero
use Rattle.cells.proofs.copy.Reads as cells-copy
use Rattle.cells.proofs.equal.Reads as cells-equal
use Rattle.cells.proofs.all_zero.Reads as cells-all-zero
use Rattle.cells.proofs.zero_part.Reads as cells-zero-part
use Rattle.cells.proofs.same_part.Reads as cells-same-part
use Rattle.aes.specs.declared.Block.{Block}
use Rattle.aes.proofs.sub_table.Reads as aes-sub-table
use Rattle.aes.proofs.inv_sub_table.Reads as aes-inv-sub-table
use Rattle.aes.proofs.mix_table.Reads as aes-mix-table
use Rattle.aes.proofs.inv_mix_table.Reads as aes-inv-mix-table
use Rattle.aes.proofs.word_at.Reads as aes-word-at
use Rattle.aes.proofs.put_word.Reads as aes-put-word
use Rattle.aes.proofs.expand.Reads as aes-expand
use Rattle.aes.proofs.unmix.Reads as aes-unmix
use Rattle.aes.proofs.wipe.Reads as aes-wipe
use Rattle.aes.proofs.cipher_by.Reads as aes-cipher-by
use Rattle.aes.proofs.inv_cipher_by.Reads as aes-inv-cipher-by
use Rattle.aes.proofs.cipher.Reads as aes-cipher
use Rattle.aes.proofs.inv_cipher.Reads as aes-inv-cipher
use Rattle.wrap.proofs.wrap.Reads as wrap-wrap
use Rattle.wrap.proofs.unwrap.Reads as wrap-unwrap
use Rattle.ttlv.specs.declared.Front.{Front}
use Rattle.ttlv.specs.declared.ReadError.{ReadError as NotListed}
use Rattle.ttlv.specs.declared.WriteError.{WriteError as NotWritten}
use Rattle.kmip.specs.declared.ReadError.{ReadError as NotRead}
use Rattle.kmip.specs.declared.WriteError.{WriteError as NotSent}
use Rattle.discovery.proofs.own_fields.Reads as discovery-own-fields
use Rattle.discovery.proofs.write.Reads as discovery-write
use Rattle.discovery.proofs.read.Reads as discovery-read
use Rattle.ttlv.proofs.item_at.Reads as ttlv-item-at
use Rattle.ttlv.proofs.sound.Reads as ttlv-sound
use Rattle.ttlv.proofs.read.Reads as ttlv-read
use Rattle.ttlv.proofs.write.Reads as ttlv-write
use Rattle.kmip.proofs.read.Reads as kmip-read
use Rattle.kmip.proofs.write.Reads as kmip-write
use Rattle.digits.proofs.read_line.Reads as digits-read-line
use Rattle.digits.proofs.number.Reads as digits_number
use Rattle.digits.proofs.write_answer.Reads as digits-write-answer
use Rattle.frames.proofs.read.Reads as frames-read
use Rattle.slots.proofs.loaded.Reads as slots-loaded
use Rattle.slots.proofs.holds_uid.Reads as slots-holds-uid
use Rattle.slots.proofs.other_key_allocated.Reads as slots-other-key-allocated
use Rattle.sound.proofs.unsound.Reads as sound-unsound
use Rattle.slots.proofs.store.Reads as slots-store
use Rattle.slots.proofs.clear.Reads as slots-clear
use Rattle.slots.proofs.clear_all.Reads as slots-clear-all
use Rattle.slots.proofs.clear_up_to.Reads as slots-clear-up-to
use Rattle.slots.proofs.clear_allocated.Reads as slots-clear-allocated
use Rattle.marks.proofs.some_differs.Reads as marks-some-differs
use Rattle.marks.proofs.mark.Reads as marks-mark
use Rattle.marks.proofs.zero_namespace.Reads as marks-zero-namespace
use Rattle.locks.proofs.decide.Reads as locks-decide
use Rattle.locks.proofs.shown.Reads as locks-shown
use Rattle.locks.proofs.lock_value.Reads as locks-lock-value
use Rattle.locks.proofs.boot_write.Reads as locks-boot-write
use Rattle.locks.proofs.both_locked.Reads as locks-both-locked
use Rattle.locks.specs.contracts.set_locks as set-locks
use Rattle.locks.proofs.set_features.Reads as locks-set-features
use Rattle.drive.proofs.start.Reads as drive-start
use Rattle.drive.proofs.answer_line.Reads as drive-answer-line
use Rattle.drive.proofs.answer_session.Reads as drive-answer-session
use Rattle.tuffaleen_c.proofs.tuffaleen_start.Reads as tuffaleen-c-start
use Rattle.tuffaleen_c.proofs.tuffaleen_line.Reads as tuffaleen-c-line
use Rattle.tuffaleen_c.proofs.tuffaleen_session.Reads as tuffaleen-c-session
use Rattle.tuffaleen_c.proofs.tuffaleen_discovery.Reads as tuffaleen-c-discovery
use Rattle.tuffaleen_c.proofs.tuffaleen_message.Reads as tuffaleen-c-message
use Rattle.tuffaleen_c.proofs.tuffaleen_wrap.Reads as tuffaleen-c-wrap
use Rattle.tuffaleen_c.proofs.tuffaleen_unwrap.Reads as tuffaleen-c-unwrap

-- A function's contract as its callers know it: `asks` is what they must show of the arguments; `tells` what they learn of the arguments,
-- the result, and what was lent as it is at the exit (exit.0 for the first parameter, exit.1.0 for the second, and so on). `left` puts
-- together all that a call leaves.
-- The contract is tight: it asks nothing, and any two outcomes that it allows are the same. (That there is one is Defined.)
abbrev pub Tight : {Lifetimes : Type 0} {Args Result Exit : Lifetimes → Type 0} {Left : Type 0}
    → ((κs : Lifetimes) → Args κs → Type 0)
    → ((κs : Lifetimes) → Args κs → Result κs → Exit κs → Type 0)
    → ((κs : Lifetimes) → Result κs → Exit κs → Left)
    → Type 0
Tight {Lifetimes} {Args} {Result} {Exit} asks tells left =
    ((κs : Lifetimes) (args : Args κs) → asks κs args)
    × ((κs : Lifetimes) (args : Args κs) (result result' : Result κs) (exit exit' : Exit κs)
    → tells κs args result exit
    → tells κs args result' exit'
    → left κs result exit ≡ left κs result' exit')

abbrev pub Tight-cells-fill-zero : Type 0
Tight-cells-fill-zero = Tight {Left = List ℕ} cells-fill-zero.Asked cells-fill-zero.Learnt (λ κs result exit. exit.0.now)

abbrev pub Tight-cells-copy : Type 0
Tight-cells-copy = Tight {Left = List ℕ} cells-copy.Asked cells-copy.Learnt (λ κs result exit. exit.0.now)

abbrev pub Tight-cells-equal : Type 0
Tight-cells-equal = Tight {Left = Bool} cells-equal.Asked cells-equal.Learnt (λ κs result exit. result)

abbrev pub Tight-cells-all-zero : Type 0
Tight-cells-all-zero = Tight {Left = Bool} cells-all-zero.Asked cells-all-zero.Learnt (λ κs result exit. result)

abbrev pub Tight-cells-zero-part : Type 0
Tight-cells-zero-part = Tight {Left = List ℕ} cells-zero-part.Asked cells-zero-part.Learnt (λ κs result exit. exit.0.now)

abbrev pub Tight-cells-same-part : Type 0
Tight-cells-same-part = Tight {Left = Bool} cells-same-part.Asked cells-same-part.Learnt (λ κs result exit. result)

abbrev pub Tight-aes-sub-table : Type 0
Tight-aes-sub-table = Tight {Left = List ℕ} aes-sub-table.Asked aes-sub-table.Learnt (λ κs result exit. result)

abbrev pub Tight-aes-inv-sub-table : Type 0
Tight-aes-inv-sub-table = Tight {Left = List ℕ} aes-inv-sub-table.Asked aes-inv-sub-table.Learnt (λ κs result exit. result)

abbrev pub Tight-aes-mix-table : Type 0
Tight-aes-mix-table = Tight {Left = List ℕ} aes-mix-table.Asked aes-mix-table.Learnt (λ κs result exit. result)

abbrev pub Tight-aes-inv-mix-table : Type 0
Tight-aes-inv-mix-table = Tight {Left = List ℕ} aes-inv-mix-table.Asked aes-inv-mix-table.Learnt (λ κs result exit. result)

abbrev pub Tight-aes-word-at : Type 0
Tight-aes-word-at = Tight {Left = ℕ} aes-word-at.Asked aes-word-at.Learnt (λ κs result exit. result)

abbrev pub Tight-aes-put-word : Type 0
Tight-aes-put-word = Tight {Left = List ℕ} aes-put-word.Asked aes-put-word.Learnt (λ κs result exit. exit.0.now)

abbrev pub Tight-aes-expand : Type 0
Tight-aes-expand = Tight {Left = List ℕ} aes-expand.Asked aes-expand.Learnt (λ κs result exit. exit.1.0.now)

abbrev pub Tight-aes-unmix : Type 0
Tight-aes-unmix = Tight {Left = List ℕ} aes-unmix.Asked aes-unmix.Learnt (λ κs result exit. exit.0.now)

abbrev pub Tight-aes-wipe : Type 0
Tight-aes-wipe = Tight {Left = List ℕ} aes-wipe.Asked aes-wipe.Learnt (λ κs result exit. exit.0.now)

abbrev pub Tight-aes-cipher-by : Type 0
Tight-aes-cipher-by = Tight {Left = Block} aes-cipher-by.Asked aes-cipher-by.Learnt (λ κs result exit. result)

abbrev pub Tight-aes-inv-cipher-by : Type 0
Tight-aes-inv-cipher-by = Tight {Left = Block} aes-inv-cipher-by.Asked aes-inv-cipher-by.Learnt (λ κs result exit. result)

abbrev pub Tight-aes-cipher : Type 0
Tight-aes-cipher = Tight {Left = Block × List ℕ} aes-cipher.Asked aes-cipher.Learnt (λ κs result exit. (result, exit.1.0.now))

abbrev pub Tight-aes-inv-cipher : Type 0
Tight-aes-inv-cipher = Tight {Left = Block × List ℕ} aes-inv-cipher.Asked aes-inv-cipher.Learnt (λ κs result exit. (result, exit.1.0.now))

abbrev pub Tight-wrap-wrap : Type 0
Tight-wrap-wrap = Tight {Left = List ℕ × List ℕ} wrap-wrap.Asked wrap-wrap.Learnt (λ κs result exit. (exit.1.0.now, exit.1.1.0.now))

abbrev pub Tight-wrap-unwrap : Type 0
Tight-wrap-unwrap =
    Tight {Left = Bool × (List ℕ × List ℕ)} wrap-unwrap.Asked wrap-unwrap.Learnt (λ κs result exit. (result, (exit.1.0.now, exit.1.1.0.now)))

abbrev pub Tight-discovery-own-fields : Type 0
Tight-discovery-own-fields = Tight {Left = DiscoveryFields} discovery-own-fields.Asked discovery-own-fields.Learnt (λ κs result exit. result)

abbrev pub Tight-discovery-write : Type 0
Tight-discovery-write = Tight {Left = Answer × List ℕ} discovery-write.Asked discovery-write.Learnt (λ κs result exit. (result, exit.1.0.now))

abbrev pub Tight-discovery-read : Type 0
Tight-discovery-read = Tight {Left = Result Discovered Refusal} discovery-read.Asked discovery-read.Learnt (λ κs result exit. result)

abbrev pub Tight-ttlv-item-at : Type 0
Tight-ttlv-item-at = Tight {Left = Option Front} ttlv-item-at.Asked ttlv-item-at.Learnt (λ κs result exit. result)

abbrev pub Tight-ttlv-sound : Type 0
Tight-ttlv-sound = Tight {Left = Bool} ttlv-sound.Asked ttlv-sound.Learnt (λ κs result exit. result)

abbrev pub Tight-ttlv-read : Type 0
Tight-ttlv-read = Tight {Left = Result ℕ NotListed × List ℕ} ttlv-read.Asked ttlv-read.Learnt (λ κs result exit. (result, exit.1.0.now))

abbrev pub Tight-ttlv-write : Type 0
Tight-ttlv-write = Tight {Left = Result ℕ NotWritten × List ℕ} ttlv-write.Asked ttlv-write.Learnt (λ κs result exit. (result, exit.1.1.1.0.now))

abbrev pub Tight-kmip-read : Type 0
Tight-kmip-read = Tight {Left = Result ℕ NotRead × List ℕ} kmip-read.Asked kmip-read.Learnt (λ κs result exit. (result, exit.1.1.1.0.now))

abbrev pub Tight-kmip-write : Type 0
Tight-kmip-write =
    Tight {Left = Result ℕ NotSent × List ℕ} kmip-write.Asked kmip-write.Learnt (λ κs result exit. (result, exit.1.1.1.1.0.now))

abbrev pub Tight-digits-read-line : Type 0
Tight-digits-read-line =
    Tight {Left = Result ℕ BadLine × List ℕ} digits-read-line.Asked digits-read-line.Learnt (λ κs result exit. (result, exit.1.0.now))

abbrev pub Tight-digits-number : Type 0
Tight-digits-number = Tight {Left = ℕ} digits_number.Asked digits_number.Learnt (λ κs result exit. result)

abbrev pub Tight-digits-write-answer : Type 0
Tight-digits-write-answer = Tight {Left = ℕ × List ℕ} digits-write-answer.Asked digits-write-answer.Learnt (λ κs result exit. (result, exit.1.0.now))

abbrev pub Tight-frames-read : Type 0
Tight-frames-read =
    Tight {Left = Result FrameRead Refusal × (List ℕ × List ℕ)} frames-read.Asked frames-read.Learnt
    (λ κs result exit. (result, (exit.1.0.now, exit.1.1.0.now)))

abbrev pub Tight-slots-loaded : Type 0
Tight-slots-loaded = Tight {Left = Bool} slots-loaded.Asked slots-loaded.Learnt (λ κs result exit. result)

abbrev pub Tight-slots-holds-uid : Type 0
Tight-slots-holds-uid = Tight {Left = Bool} slots-holds-uid.Asked slots-holds-uid.Learnt (λ κs result exit. result)

abbrev pub Tight-slots-other-key-allocated : Type 0
Tight-slots-other-key-allocated = Tight {Left = Bool} slots-other-key-allocated.Asked slots-other-key-allocated.Learnt (λ κs result exit. result)

abbrev pub Tight-sound-unsound : Type 0
Tight-sound-unsound = Tight {Left = Bool} sound-unsound.Asked sound-unsound.Learnt (λ κs result exit. result)

abbrev pub Tight-slots-store : Type 0
Tight-slots-store = Tight {Left = List ℕ} slots-store.Asked slots-store.Learnt (λ κs result exit. exit.0.now)

abbrev pub Tight-slots-clear : Type 0
Tight-slots-clear = Tight {Left = List ℕ} slots-clear.Asked slots-clear.Learnt (λ κs result exit. exit.0.now)

abbrev pub Tight-slots-clear-all : Type 0
Tight-slots-clear-all = Tight {Left = List ℕ} slots-clear-all.Asked slots-clear-all.Learnt (λ κs result exit. exit.0.now)

abbrev pub Tight-slots-clear-up-to : Type 0
Tight-slots-clear-up-to = Tight {Left = List ℕ} slots-clear-up-to.Asked slots-clear-up-to.Learnt (λ κs result exit. exit.0.now)

abbrev pub Tight-slots-clear-allocated : Type 0
Tight-slots-clear-allocated = Tight {Left = List ℕ} slots-clear-allocated.Asked slots-clear-allocated.Learnt (λ κs result exit. exit.1.0.now)

abbrev pub Tight-marks-some-differs : Type 0
Tight-marks-some-differs = Tight {Left = Bool} marks-some-differs.Asked marks-some-differs.Learnt (λ κs result exit. result)

abbrev pub Tight-marks-mark : Type 0
Tight-marks-mark = Tight {Left = List ℕ} marks-mark.Asked marks-mark.Learnt (λ κs result exit. exit.0.now)

abbrev pub Tight-marks-zero-namespace : Type 0
Tight-marks-zero-namespace = Tight {Left = List ℕ} marks-zero-namespace.Asked marks-zero-namespace.Learnt (λ κs result exit. exit.0.now)

abbrev pub Tight-locks-decide : Type 0
Tight-locks-decide = Tight {Left = Result BootLocks Refusal} locks-decide.Asked locks-decide.Learnt (λ κs result exit. result)

abbrev pub Tight-locks-shown : Type 0
Tight-locks-shown = Tight {Left = ℕ} locks-shown.Asked locks-shown.Learnt (λ κs result exit. result)

abbrev pub Tight-locks-lock-value : Type 0
Tight-locks-lock-value = Tight {Left = ℕ} locks-lock-value.Asked locks-lock-value.Learnt (λ κs result exit. result)

abbrev pub Tight-locks-boot-write : Type 0
Tight-locks-boot-write = Tight {Left = Answer} locks-boot-write.Asked locks-boot-write.Learnt (λ κs result exit. result)

abbrev pub Tight-locks-both-locked : Type 0
Tight-locks-both-locked = Tight {Left = BootLocks} locks-both-locked.Asked locks-both-locked.Learnt (λ κs result exit. result)

-- set_locks is lent a struct, so that its callers know its contract as assertions of the program logic: what it requires follows from
-- nothing (`ent emp`), and two of what it ensures together (`conj`) give that the outcomes are the same.
abbrev pub Tight-locks-set-locks : Type 2
Tight-locks-set-locks =
    (w : World) (κs : Lfts 1) (args : ArgsD set-locks.signature κs)
    → ent w.𝓤 (emp w.𝓤) ((contract w κs args).requires tt)
    × ((result result' : Answer) (exit exit' : AtExit set-locks.ended κs)
    → ent w.𝓤
    (conj w.𝓤 ((contract w κs args).ensures tt result exit) ((contract w κs args).ensures tt result' exit'))
    (fact w.𝓤 (◌≡◌ {A = Answer × BootLocks} (result, exit.0.now) (result', exit'.0.now))))
  where
    contract : (w : World) → Clauses w.𝓤 set-locks.ended
    contract w = set-locks.clauses w.𝓛 w.𝓜.mem w.𝓡.run

abbrev pub Tight-locks-set-features : Type 0
Tight-locks-set-features = Tight {Left = Result BootLocks Refusal} locks-set-features.Asked locks-set-features.Learnt (λ κs result exit. result)

abbrev pub Tight-drive-start : Type 0
Tight-drive-start =
    Tight {Left = Answered × (List ℕ × List ℕ)} drive-start.Asked drive-start.Learnt
    (λ κs result exit. (result, (exit.1.0.now, exit.1.1.0.now)))

abbrev pub Tight-drive-answer-line : Type 0
Tight-drive-answer-line =
    Tight {Left = Reply × (List ℕ × (List ℕ × List ℕ))} drive-answer-line.Asked drive-answer-line.Learnt
    (λ κs result exit. (result, (exit.1.0.now, (exit.1.1.0.now, exit.1.1.1.1.0.now))))

abbrev pub Tight-drive-answer-session : Type 0
Tight-drive-answer-session =
    Tight {Left = SessionReply × (List ℕ × (List ℕ × List ℕ))} drive-answer-session.Asked drive-answer-session.Learnt
    (λ κs result exit. (result, (exit.1.0.now, (exit.1.1.0.now, exit.1.1.1.1.0.now))))

-- the lines and bytes that a call from C tells, it tells through a number that it is lent
abbrev pub Tight-tuffaleen-c-start : Type 0
Tight-tuffaleen-c-start =
    Tight {Left = ℕ × (List ℕ × List ℕ)} tuffaleen-c-start.Asked tuffaleen-c-start.Learnt
    (λ κs result exit. (result, (exit.0.now, exit.1.0.now)))

abbrev pub Tight-tuffaleen-c-line : Type 0
Tight-tuffaleen-c-line =
    Tight {Left = ℕ × (List ℕ × (List ℕ × (List ℕ × ℕ)))} tuffaleen-c-line.Asked tuffaleen-c-line.Learnt
    (λ κs result exit. (result, (exit.0.now, (exit.1.0.now, (exit.1.1.1.0.now, exit.1.1.1.1.0.now)))))

abbrev pub Tight-tuffaleen-c-session : Type 0
Tight-tuffaleen-c-session =
    Tight {Left = ℕ × (List ℕ × (List ℕ × (List ℕ × (ℕ × ℕ))))} tuffaleen-c-session.Asked tuffaleen-c-session.Learnt
    (λ κs result exit. (result, (exit.0.now, (exit.1.0.now, (exit.1.1.1.0.now, (exit.1.1.1.1.0.now, exit.1.1.1.1.1.0.now))))))

abbrev pub Tight-tuffaleen-c-discovery : Type 0
Tight-tuffaleen-c-discovery =
    Tight {Left = ℕ × List ℕ} tuffaleen-c-discovery.Asked tuffaleen-c-discovery.Learnt (λ κs result exit. (result, exit.1.0.now))

abbrev pub Tight-tuffaleen-c-message : Type 0
Tight-tuffaleen-c-message =
    Tight {Left = ℕ × (ℕ × List ℕ)} tuffaleen-c-message.Asked tuffaleen-c-message.Learnt
    (λ κs result exit. (result, (exit.1.1.1.1.1.0.now, exit.1.1.1.1.0.now)))

abbrev pub Tight-tuffaleen-c-wrap : Type 0
Tight-tuffaleen-c-wrap =
    Tight {Left = List ℕ × List ℕ} tuffaleen-c-wrap.Asked tuffaleen-c-wrap.Learnt
    (λ κs result exit. (exit.1.0.now, exit.1.1.0.now))

abbrev pub Tight-tuffaleen-c-unwrap : Type 0
Tight-tuffaleen-c-unwrap =
    Tight {Left = (ℕ × List ℕ) × List ℕ} tuffaleen-c-unwrap.Asked tuffaleen-c-unwrap.Learnt
    (λ κs result exit. ((result, exit.1.0.now), exit.1.1.0.now))
