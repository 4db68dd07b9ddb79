-- `read` meets its contract: each way out is an answer of `read_list`.
-- Assumes nothing.
use mathlib.Core.Path.{sym, ◌∙◌}
use Rattle.ttlv.proofs.ListingLaws.{read_few, read_long, read_unsound, read_laid}
use Rattle.ttlv.proofs.read.Goals as goal
use Rattle.ttlv.proofs.read.Goals.{then-bytes-gt-MESSAGE_MOST-via-then-bytes-gt-MESSAGE_MOST}
use Rattle.ttlv.proofs.read.Goals.{then-bytes-gt-MESSAGE_MOST-via-else-bytes-gt-MESSAGE_MOST+then-not-sound}

pub returns-then-places : goal.returns-then-places
returns-then-places c =
    let s = c.args in
    read_few s.bytes.now s.places.now c.if-places.true

pub returns-then-bytes-gt-MESSAGE_MOST : goal.returns-then-bytes-gt-MESSAGE_MOST
returns-then-bytes-gt-MESSAGE_MOST c =
    let s = c.args in
    let enough = c.if-places.false in
    elim c.then-bytes-gt-MESSAGE_MOST.branch [
      | then-bytes-gt-MESSAGE_MOST-via-then-bytes-gt-MESSAGE_MOST w ↦ read_long s.bytes.now s.places.now enough w.if-bytes-gt-MESSAGE_MOST.true
      | then-bytes-gt-MESSAGE_MOST-via-else-bytes-gt-MESSAGE_MOST+then-not-sound w ↦
          read_unsound s.bytes.now s.places.now enough w.if-bytes-gt-MESSAGE_MOST.false (sym w.sound.ensures ∙ w.if-not-sound.true)
    ]

pub returns : goal.returns
returns c =
    let s = c.args in
    read_laid s.bytes.now s.places.now c.if-places.false c.if-bytes-gt-MESSAGE_MOST.false c.list.result c.list.new.places c.list.ensures
