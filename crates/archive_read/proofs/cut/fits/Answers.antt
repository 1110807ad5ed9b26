-- `archive_read::cut::fits` meets its contract: so many records in the bytes left.
use mathlib.Core.Path.{sym}
use native.Mathlib.Omega.{arith}
use Rattle.archive_read.proofs.Cuts.{fits-short, fits_count}
use Rattle.archive_read.proofs.cut.fits.Goals as goal

pub returns-then-left-lt4 : goal.returns-then-left-lt4
returns-then-left-lt4 c = let a = c.args in sym (fits-short a.archive.now a.at c.if-left-lt4.true)

pub returns : goal.returns
returns c =
    let a = c.args in
    fits_count a.archive.now a.at (omega (arith, c.if-left-lt4.false)) _ c.u32_at-count.ensures
