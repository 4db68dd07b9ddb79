-- Demand 1: "Any line, any state and any store get a defined answer. Nothing
-- overruns, every call ends, no caller is asked to check first."
-- Assumes nothing.
use Rattle.cells.proofs.fill_zero.Statement as cells-fill-zero
use Rattle.cells.proofs.copy.Statement as cells-copy
use Rattle.cells.proofs.equal.Statement as cells-equal
use Rattle.cells.proofs.all_zero.Statement as cells-all-zero
use Rattle.cells.proofs.zero_part.Statement as cells-zero-part
use Rattle.cells.proofs.same_part.Statement as cells-same-part
use Rattle.aes.proofs.sub_table.Statement as aes-sub-table
use Rattle.aes.proofs.inv_sub_table.Statement as aes-inv-sub-table
use Rattle.aes.proofs.mix_table.Statement as aes-mix-table
use Rattle.aes.proofs.inv_mix_table.Statement as aes-inv-mix-table
use Rattle.aes.proofs.word_at.Statement as aes-word-at
use Rattle.aes.proofs.put_word.Statement as aes-put-word
use Rattle.aes.proofs.expand.Statement as aes-expand
use Rattle.aes.proofs.unmix.Statement as aes-unmix
use Rattle.aes.proofs.wipe.Statement as aes-wipe
use Rattle.aes.proofs.cipher_by.Statement as aes-cipher-by
use Rattle.aes.proofs.inv_cipher_by.Statement as aes-inv-cipher-by
use Rattle.aes.proofs.cipher.Statement as aes-cipher
use Rattle.aes.proofs.inv_cipher.Statement as aes-inv-cipher
use Rattle.wrap.proofs.wrap.Statement as wrap-wrap
use Rattle.wrap.proofs.unwrap.Statement as wrap-unwrap
use Rattle.discovery.proofs.own_fields.Statement as discovery-own-fields
use Rattle.discovery.proofs.write.Statement as discovery-write
use Rattle.discovery.proofs.read.Statement as discovery-read
use Rattle.ttlv.proofs.item_at.Statement as ttlv-item-at
use Rattle.ttlv.proofs.sound.Statement as ttlv-sound
use Rattle.ttlv.proofs.read.Statement as ttlv-read
use Rattle.ttlv.proofs.write.Statement as ttlv-write
use Rattle.kmip.proofs.read.Statement as kmip-read
use Rattle.kmip.proofs.write.Statement as kmip-write
use Rattle.digits.proofs.read_line.Statement as digits-read-line
use Rattle.digits.proofs.number.Statement as digits_number
use Rattle.digits.proofs.write_answer.Statement as digits-write-answer
use Rattle.frames.proofs.read.Statement as frames-read
use Rattle.slots.proofs.loaded.Statement as slots-loaded
use Rattle.slots.proofs.holds_uid.Statement as slots-holds-uid
use Rattle.slots.proofs.other_key_allocated.Statement as slots-other-key-allocated
use Rattle.sound.proofs.unsound.Statement as sound-unsound
use Rattle.slots.proofs.store.Statement as slots-store
use Rattle.slots.proofs.clear.Statement as slots-clear
use Rattle.slots.proofs.clear_all.Statement as slots-clear-all
use Rattle.slots.proofs.clear_up_to.Statement as slots-clear-up-to
use Rattle.slots.proofs.clear_allocated.Statement as slots-clear-allocated
use Rattle.marks.proofs.some_differs.Statement as marks-some-differs
use Rattle.marks.proofs.mark.Statement as marks-mark
use Rattle.marks.proofs.zero_namespace.Statement as marks-zero-namespace
use Rattle.locks.proofs.decide.Statement as locks-decide
use Rattle.locks.proofs.shown.Statement as locks-shown
use Rattle.locks.proofs.lock_value.Statement as locks-lock-value
use Rattle.locks.proofs.boot_write.Statement as locks-boot-write
use Rattle.locks.proofs.both_locked.Statement as locks-both-locked
use Rattle.locks.proofs.set_locks.Statement as locks-set-locks
use Rattle.locks.proofs.set_features.Statement as locks-set-features
use Rattle.drive.proofs.start.Statement as drive-start
use Rattle.drive.proofs.answer_line.Statement as drive-answer-line
use Rattle.drive.proofs.answer_session.Statement as drive-answer-session
use Rattle.tuffaleen_c.proofs.tuffaleen_start.Statement as tuffaleen-c-start
use Rattle.tuffaleen_c.proofs.tuffaleen_line.Statement as tuffaleen-c-line
use Rattle.tuffaleen_c.proofs.tuffaleen_session.Statement as tuffaleen-c-session
use Rattle.tuffaleen_c.proofs.tuffaleen_discovery.Statement as tuffaleen-c-discovery
use Rattle.tuffaleen_c.proofs.tuffaleen_message.Statement as tuffaleen-c-message
use Rattle.tuffaleen_c.proofs.tuffaleen_wrap.Statement as tuffaleen-c-wrap
use Rattle.tuffaleen_c.proofs.tuffaleen_unwrap.Statement as tuffaleen-c-unwrap

-- Every public function, run on any arguments, ends and leaves what its contract says: its theorem, as the prover states it.
pub record Defined (M : Type 1) : Type 2 where
  pub cells_fill_zero_ends : cells-fill-zero.statement M
  pub cells_copy_ends : cells-copy.statement M
  pub cells_equal_ends : cells-equal.statement M
  pub cells_all_zero_ends : cells-all-zero.statement M
  pub cells_zero_part_ends : cells-zero-part.statement M
  pub cells_same_part_ends : cells-same-part.statement M
  pub aes_sub_table_ends : aes-sub-table.statement M
  pub aes_inv_sub_table_ends : aes-inv-sub-table.statement M
  pub aes_mix_table_ends : aes-mix-table.statement M
  pub aes_inv_mix_table_ends : aes-inv-mix-table.statement M
  pub aes_word_at_ends : aes-word-at.statement M
  pub aes_put_word_ends : aes-put-word.statement M
  pub aes_expand_ends : aes-expand.statement M
  pub aes_unmix_ends : aes-unmix.statement M
  pub aes_wipe_ends : aes-wipe.statement M
  pub aes_cipher_by_ends : aes-cipher-by.statement M
  pub aes_inv_cipher_by_ends : aes-inv-cipher-by.statement M
  pub aes_cipher_ends : aes-cipher.statement M
  pub aes_inv_cipher_ends : aes-inv-cipher.statement M
  pub wrap_wrap_ends : wrap-wrap.statement M
  pub wrap_unwrap_ends : wrap-unwrap.statement M
  pub discovery_own_fields_ends : discovery-own-fields.statement M
  pub discovery_write_ends : discovery-write.statement M
  pub discovery_read_ends : discovery-read.statement M
  pub ttlv_item_at_ends : ttlv-item-at.statement M
  pub ttlv_sound_ends : ttlv-sound.statement M
  pub ttlv_read_ends : ttlv-read.statement M
  pub ttlv_write_ends : ttlv-write.statement M
  pub kmip_read_ends : kmip-read.statement M
  pub kmip_write_ends : kmip-write.statement M
  pub digits_read_line_ends : digits-read-line.statement M
  pub digits_number_ends : digits_number.statement M
  pub digits_write_answer_ends : digits-write-answer.statement M
  pub frames_read_ends : frames-read.statement M
  pub slots_loaded_ends : slots-loaded.statement M
  pub slots_holds_uid_ends : slots-holds-uid.statement M
  pub slots_other_key_allocated_ends : slots-other-key-allocated.statement M
  pub sound_unsound_ends : sound-unsound.statement M
  pub slots_store_ends : slots-store.statement M
  pub slots_clear_ends : slots-clear.statement M
  pub slots_clear_all_ends : slots-clear-all.statement M
  pub slots_clear_up_to_ends : slots-clear-up-to.statement M
  pub slots_clear_allocated_ends : slots-clear-allocated.statement M
  pub marks_some_differs_ends : marks-some-differs.statement M
  pub marks_mark_ends : marks-mark.statement M
  pub marks_zero_namespace_ends : marks-zero-namespace.statement M
  pub locks_decide_ends : locks-decide.statement M
  pub locks_shown_ends : locks-shown.statement M
  pub locks_lock_value_ends : locks-lock-value.statement M
  pub locks_boot_write_ends : locks-boot-write.statement M
  pub locks_both_locked_ends : locks-both-locked.statement M
  pub locks_set_locks_ends : locks-set-locks.statement M
  pub locks_set_features_ends : locks-set-features.statement M
  pub drive_start_ends : drive-start.statement M
  pub drive_answer_line_ends : drive-answer-line.statement M
  pub drive_answer_session_ends : drive-answer-session.statement M
  pub tuffaleen_c_start_ends : tuffaleen-c-start.statement M
  pub tuffaleen_c_line_ends : tuffaleen-c-line.statement M
  pub tuffaleen_c_session_ends : tuffaleen-c-session.statement M
  pub tuffaleen_c_discovery_ends : tuffaleen-c-discovery.statement M
  pub tuffaleen_c_message_ends : tuffaleen-c-message.statement M
  pub tuffaleen_c_wrap_ends : tuffaleen-c-wrap.statement M
  pub tuffaleen_c_unwrap_ends : tuffaleen-c-unwrap.statement M
