-- `lend` meets its contract: one call, on the registers and the cache of an image, or with no cache.
-- Assumes nothing.
use Rattle.std.proofs.Common.{refl}
use Rattle.tuffaleen_c.proofs.ImageLaws.{is_image, keys_within, back_size, lent_none, lent_some}
use Rattle.tuffaleen_c.proofs.image.lend.Goals as goal

pub slice_bounds-call-count : goal.slice_bounds-call-count
slice_bounds-call-count g c = keys_within c.args.image.now (is_image _ c.in-Some.ensures.0).size

pub slice_bounds-call-start : goal.slice_bounds-call-start
slice_bounds-call-start g c = keys_within c.args.image.now (is_image _ c.in-Some.ensures.0).size

pub save-requires : goal.save-requires
save-requires g c = back_size c.args.image.now (is_image _ c.in-Some.ensures.0).size _ c.call-reply.auto.arg3

pub returns-in-Some : goal.returns-in-Some
returns-in-Some g c =
    lent_some c.args.image.now _ _ c.call-reply.result c.call-reply.ensures c.in-Some.ensures refl c.save.ensures

pub returns-in-None : goal.returns-in-None
returns-in-None g c =
    lent_none c.args.image.now _ _ c.call.result c.call.ensures c.in-None.ensures c.no_registers.ensures refl
