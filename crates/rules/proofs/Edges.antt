-- The rows of Edges are right: the checker computes them as it does the bench table.
-- Assumes nothing.
use mathlib.Core.Path.{refl, ◌∙◌}
use Rattle.std.specs.Prelude.{◌≡◌, true, Err}
use Rattle.cells.specs.Cells.{part, write, zeros, copies, cell, put, fill}
use Rattle.cells.specs.Predicates.{same, all_zero, some_from, some_cell}
use Rattle.rules.specs.Answers.{07·0F, fault_of, digits_of, answer_line}
use Rattle.rules.specs.Fields.{little}
use Rattle.rules.specs.FrameLine.{first_bad, decoded, line_checks}
use Rattle.rules.specs.Slots.{padded, slot_bytes, uid_of, key_of, held}
use Rattle.rules.specs.Marks.{kept_identity}
use Rattle.rules.specs.View.{together, some_below, other_key}
use Rattle.rules.proofs.OtherKeyLaws.{other_key_in, other_key_among}
use Rattle.rules.specs.Frames.{command_of, read_load, read_replace, kinds, read_frame}
use Rattle.rules.specs.Effects.{set_count, store_key, empty_slot, empty_all_slots, mark_covered}
use Rattle.rules.specs.Order.{manage, release, clear_all, load, replace, clear_one, wrong_key, command}
use Rattle.rules.specs.Order.{set_features, get_features, boot_write, reset, frame_rule}
use Rattle.rules.specs.Start.{fresh_registers, fresh, program_kek}
use Rattle.rules.specs.Call.{room_for}
use Rattle.rules.specs.Sessions.{lines_of, room_for_all, no_session, session}
use Rattle.rules.specs.Examples.{codes, all_right}
use Rattle.rules.specs.Edges.{edges, orders, session_text, EdgesRight}
use Rattle.rules.proofs.NearLaws.{reach, near, looking, near_rule, near_step}
use Rattle.rules.proofs.ExamplesLaws.{right_on, all_right_on, all_right_on_lem}

edges_are : all_right edges ≡ true
unfolding part write zeros copies cell put fill same all_zero some_from some_cell fault_of digits_of answer_line first_bad decoded line_checks little padded
    slot_bytes uid_of key_of held other_key_in other_key_among together some_below other_key kept_identity command_of read_load kinds read_frame
    set_count store_key empty_slot empty_all_slots mark_covered manage load clear_one wrong_key command set_features get_features boot_write reset frame_rule
    fresh_registers reach near looking near_rule near_step codes right_on all_right_on edges
edges_are = all_right_on_lem edges ∙ refl

orders_are : all_right orders ≡ true
unfolding part write zeros copies cell put fill same all_zero some_from some_cell fault_of digits_of answer_line first_bad decoded line_checks little padded
    slot_bytes uid_of key_of held other_key_in other_key_among together some_below other_key kept_identity command_of read_load read_replace kinds read_frame
    set_count store_key mark_covered manage release clear_all load replace clear_one wrong_key command set_features boot_write frame_rule
    fresh_registers reach near looking near_rule near_step codes right_on all_right_on orders
orders_are = all_right_on_lem orders ∙ refl

short_session_is : (session (fresh program_kek) session_text (zeros 77)).result ≡ Err 07·0F
unfolding session no_session lines_of room_for_all room_for codes zeros copies same
short_session_is = refl

pub edges_right : EdgesRight
edges_right = record { edges_right = edges_are; orders_right = orders_are; short_session = short_session_is }
