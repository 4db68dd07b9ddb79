-- `key_per_io_bytes` meets its contract: byte by byte.
-- Assumes nothing.
use Rattle.std.proofs.Common.{◌∙◌}
use native.Mathlib.Nat.{mul-one}
use Rattle.cells.specs.Cells.{zeros}
use Rattle.rules.specs.Discovery.{key_per_io_bytes}
use Rattle.discovery.proofs.writing.key_per_io_bytes.Goals as goal

pub returns : goal.returns
unfolding key_per_io_bytes zeros
returns c =
    rw (
      c.copy_from_slice.ensures.after ∙ c.to_be_bytes.ensures,
      c.copy_from_slice-2.ensures.after ∙ c.to_be_bytes-2.ensures,
      c.copy_from_slice-3.ensures.after ∙ c.to_be_bytes-3.ensures,
      c.copy_from_slice-4.ensures.after ∙ c.to_be_bytes-4.ensures,
      c.copy_from_slice-5.ensures.after ∙ c.to_be_bytes-5.ensures,
      c.copy_from_slice-6.ensures.after ∙ c.to_be_bytes-6.ensures,
      c.copy_from_slice-7.ensures.after ∙ c.to_be_bytes-7.ensures,
      c.copy_from_slice-8.ensures.after ∙ c.to_be_bytes-8.ensures,
      c.copy_from_slice-9.ensures.after ∙ c.to_be_bytes-9.ensures,
      c.copy_from_slice-10.ensures.after ∙ c.to_be_bytes-10.ensures,
    )
    (simp mul-one)
