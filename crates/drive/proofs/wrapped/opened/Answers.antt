-- `wrapped::opened` meets its contract: what did not open is refused, what did is loaded.
-- Assumes nothing.
use Rattle.std.proofs.Common.{◌+◌, [], drop, sym, ap, ◌∙◌}
use Rattle.cells.specs.Cells.{part}
use Rattle.rules.specs.Numbers.{wrapped_size, slots_size}
use Rattle.rules.specs.State.{obey}
use Rattle.rules.specs.Frames.{contents_at}
use Rattle.rules.specs.KeyWrap.{unwrap}
use Rattle.rules.specs.View.{view_of}
use Rattle.rules.specs.Order.{load}
use Rattle.drive.specs.Acting.{state}
use Rattle.drive.proofs.ActingLaws.{cache_of}
use Rattle.drive.proofs.WrappedLaws.{shut, opens, wrapped_shut, wrapped_open, uid_short, new_room, rest_same, contents_is, opened_fits}
use Rattle.drive.proofs.wrapped.opened.Goals as goal

pub open-requires : goal.open-requires
open-requires c =
    let a = c.args in
    (cache_of a.registers.now a.keys.now c.requires.0, uid_short [] a.f.now a.l c.requires.1.0 c.requires.1.1, c.requires.1.1)

pub returns-then-not-open : goal.returns-then-not-open
returns-then-not-open c =
    let a = c.args in
    let kek = drop slots_size a.keys.now in
    let f = a.f.now in
    let was = unwrap kek (part (5 + a.l) wrapped_size f) in
    let none = shut was (sym c.if-not-open.true ∙ c.open.ensures.0) in (
      λ marks. (wrapped_shut a.registers.now a.keys.now marks a.ns a.tag (contents_at wrapped_size 5 a.l f) c.requires.2 none),
      rest_same kek f a.l c.requires.1.0 c.requires.1.1 _ c.open.ensures.1,
      c.open.ensures.2,
    )

pub clear-requires : goal.clear-requires
clear-requires c =
    let a = c.args in
    let kek = drop slots_size a.keys.now in
    let f = a.f.now in
    let was = unwrap kek (part (5 + a.l) wrapped_size f) in
    let some = opens was (sym c.if-not-open.false ∙ c.open.ensures.0) in
    let fit = c.requires.1.0 in
    let room = c.requires.1.1 in (
      c.requires.0,
      (opened_fits kek f a.l fit room _ c.open.ensures.1 some, uid_short kek f a.l fit room, new_room kek f a.l fit room _ c.open.ensures.1),
    )

pub returns : goal.returns
returns c =
    let a = c.args in
    let kek = drop slots_size a.keys.now in
    let f = a.f.now in
    let was = unwrap kek (part (5 + a.l) wrapped_size f) in
    let some = opens was (sym c.if-not-open.false ∙ c.open.ensures.0) in
    let fit = c.requires.1.0 in
    let room = c.requires.1.1 in (
      λ marks.
          let now = state a.registers.now a.keys.now marks in
          c.clear.ensures marks
          ∙ ap (λ x. obey now (load (view_of now) a.ns a.tag x)) (contents_is kek f a.l fit room _ c.open.ensures.1 some)
          ∙ wrapped_open a.registers.now a.keys.now marks a.ns a.tag (contents_at wrapped_size 5 a.l f) some.key some.is,
      rest_same kek f a.l fit room _ c.open.ensures.1,
      c.open.ensures.2,
    )
