-- Every public function's theorem, as its own proof gives it.
-- Assumes nothing.
use Rattle.cells.proofs.fill_zero.Met as cells-fill-zero
use Rattle.cells.proofs.copy.Met as cells-copy
use Rattle.cells.proofs.equal.Met as cells-equal
use Rattle.cells.proofs.all_zero.Met as cells-all-zero
use Rattle.cells.proofs.zero_part.Met as cells-zero-part
use Rattle.cells.proofs.same_part.Met as cells-same-part
use Rattle.aes.proofs.sub_table.Met as aes-sub-table
use Rattle.aes.proofs.inv_sub_table.Met as aes-inv-sub-table
use Rattle.aes.proofs.mix_table.Met as aes-mix-table
use Rattle.aes.proofs.inv_mix_table.Met as aes-inv-mix-table
use Rattle.aes.proofs.word_at.Met as aes-word-at
use Rattle.aes.proofs.put_word.Met as aes-put-word
use Rattle.aes.proofs.expand.Met as aes-expand
use Rattle.aes.proofs.unmix.Met as aes-unmix
use Rattle.aes.proofs.wipe.Met as aes-wipe
use Rattle.aes.proofs.cipher_by.Met as aes-cipher-by
use Rattle.aes.proofs.inv_cipher_by.Met as aes-inv-cipher-by
use Rattle.aes.proofs.cipher.Met as aes-cipher
use Rattle.aes.proofs.inv_cipher.Met as aes-inv-cipher
use Rattle.wrap.proofs.wrap.Met as wrap-wrap
use Rattle.wrap.proofs.unwrap.Met as wrap-unwrap
use Rattle.discovery.proofs.own_fields.Met as discovery-own-fields
use Rattle.discovery.proofs.write.Met as discovery-write
use Rattle.discovery.proofs.read.Met as discovery-read
use Rattle.ttlv.proofs.item_at.Met as ttlv-item-at
use Rattle.ttlv.proofs.sound.Met as ttlv-sound
use Rattle.ttlv.proofs.read.Met as ttlv-read
use Rattle.ttlv.proofs.write.Met as ttlv-write
use Rattle.kmip.proofs.read.Met as kmip-read
use Rattle.kmip.proofs.write.Met as kmip-write
use Rattle.digits.proofs.read_line.Met as digits-read-line
use Rattle.digits.proofs.number.Met as digits_number
use Rattle.digits.proofs.write_answer.Met as digits-write-answer
use Rattle.frames.proofs.read.Met as frames-read
use Rattle.slots.proofs.loaded.Met as slots-loaded
use Rattle.slots.proofs.holds_uid.Met as slots-holds-uid
use Rattle.slots.proofs.other_key_allocated.Met as slots-other-key-allocated
use Rattle.sound.proofs.unsound.Met as sound-unsound
use Rattle.slots.proofs.store.Met as slots-store
use Rattle.slots.proofs.clear.Met as slots-clear
use Rattle.slots.proofs.clear_all.Met as slots-clear-all
use Rattle.slots.proofs.clear_up_to.Met as slots-clear-up-to
use Rattle.slots.proofs.clear_allocated.Met as slots-clear-allocated
use Rattle.marks.proofs.some_differs.Met as marks-some-differs
use Rattle.marks.proofs.mark.Met as marks-mark
use Rattle.marks.proofs.zero_namespace.Met as marks-zero-namespace
use Rattle.locks.proofs.decide.Met as locks-decide
use Rattle.locks.proofs.shown.Met as locks-shown
use Rattle.locks.proofs.lock_value.Met as locks-lock-value
use Rattle.locks.proofs.boot_write.Met as locks-boot-write
use Rattle.locks.proofs.both_locked.Met as locks-both-locked
use Rattle.locks.proofs.set_locks.Met as locks-set-locks
use Rattle.locks.proofs.set_features.Met as locks-set-features
use Rattle.drive.proofs.start.Met as drive-start
use Rattle.drive.proofs.answer_line.Met as drive-answer-line
use Rattle.drive.proofs.answer_session.Met as drive-answer-session
use Rattle.tuffaleen_c.proofs.tuffaleen_start.Met as tuffaleen-c-start
use Rattle.tuffaleen_c.proofs.tuffaleen_line.Met as tuffaleen-c-line
use Rattle.tuffaleen_c.proofs.tuffaleen_session.Met as tuffaleen-c-session
use Rattle.tuffaleen_c.proofs.tuffaleen_discovery.Met as tuffaleen-c-discovery
use Rattle.tuffaleen_c.proofs.tuffaleen_message.Met as tuffaleen-c-message
use Rattle.tuffaleen_c.proofs.tuffaleen_wrap.Met as tuffaleen-c-wrap
use Rattle.tuffaleen_c.proofs.tuffaleen_unwrap.Met as tuffaleen-c-unwrap
use Rattle.promises.specs.Defined.{Defined}

pub defined : {M : Type 1} → Defined M
defined = record {
  cells_fill_zero_ends = cells-fill-zero.met;
  cells_copy_ends = cells-copy.met;
  cells_equal_ends = cells-equal.met;
  cells_all_zero_ends = cells-all-zero.met;
  cells_zero_part_ends = cells-zero-part.met;
  cells_same_part_ends = cells-same-part.met;
  aes_sub_table_ends = aes-sub-table.met;
  aes_inv_sub_table_ends = aes-inv-sub-table.met;
  aes_mix_table_ends = aes-mix-table.met;
  aes_inv_mix_table_ends = aes-inv-mix-table.met;
  aes_word_at_ends = aes-word-at.met;
  aes_put_word_ends = aes-put-word.met;
  aes_expand_ends = aes-expand.met;
  aes_unmix_ends = aes-unmix.met;
  aes_wipe_ends = aes-wipe.met;
  aes_cipher_by_ends = aes-cipher-by.met;
  aes_inv_cipher_by_ends = aes-inv-cipher-by.met;
  aes_cipher_ends = aes-cipher.met;
  aes_inv_cipher_ends = aes-inv-cipher.met;
  wrap_wrap_ends = wrap-wrap.met;
  wrap_unwrap_ends = wrap-unwrap.met;
  discovery_own_fields_ends = discovery-own-fields.met;
  discovery_write_ends = discovery-write.met;
  discovery_read_ends = discovery-read.met;
  ttlv_item_at_ends = ttlv-item-at.met;
  ttlv_sound_ends = ttlv-sound.met;
  ttlv_read_ends = ttlv-read.met;
  ttlv_write_ends = ttlv-write.met;
  kmip_read_ends = kmip-read.met;
  kmip_write_ends = kmip-write.met;
  digits_read_line_ends = digits-read-line.met;
  digits_number_ends = digits_number.met;
  digits_write_answer_ends = digits-write-answer.met;
  frames_read_ends = frames-read.met;
  slots_loaded_ends = slots-loaded.met;
  slots_holds_uid_ends = slots-holds-uid.met;
  slots_other_key_allocated_ends = slots-other-key-allocated.met;
  sound_unsound_ends = sound-unsound.met;
  slots_store_ends = slots-store.met;
  slots_clear_ends = slots-clear.met;
  slots_clear_all_ends = slots-clear-all.met;
  slots_clear_up_to_ends = slots-clear-up-to.met;
  slots_clear_allocated_ends = slots-clear-allocated.met;
  marks_some_differs_ends = marks-some-differs.met;
  marks_mark_ends = marks-mark.met;
  marks_zero_namespace_ends = marks-zero-namespace.met;
  locks_decide_ends = locks-decide.met;
  locks_shown_ends = locks-shown.met;
  locks_lock_value_ends = locks-lock-value.met;
  locks_boot_write_ends = locks-boot-write.met;
  locks_both_locked_ends = locks-both-locked.met;
  locks_set_locks_ends = locks-set-locks.met;
  locks_set_features_ends = locks-set-features.met;
  drive_start_ends = drive-start.met;
  drive_answer_line_ends = drive-answer-line.met;
  drive_answer_session_ends = drive-answer-session.met;
  tuffaleen_c_start_ends = tuffaleen-c-start.met;
  tuffaleen_c_line_ends = tuffaleen-c-line.met;
  tuffaleen_c_session_ends = tuffaleen-c-session.met;
  tuffaleen_c_discovery_ends = tuffaleen-c-discovery.met;
  tuffaleen_c_message_ends = tuffaleen-c-message.met;
  tuffaleen_c_wrap_ends = tuffaleen-c-wrap.met;
  tuffaleen_c_unwrap_ends = tuffaleen-c-unwrap.met;
}
