-- The rows of the reports' tables stand in the order of the documents: the proof of `ReportsOrdered`.
use mathlib.Core.Path.{refl}
use Rattle.reports.specs.Examine.{examine_rows}
use Rattle.reports.specs.Archive.{archive_rows, read_rows}
use Rattle.reports.specs.Mirror.{mirror_rows, compare_rows}
use Rattle.reports.specs.ReportsOrdered.{ReportsOrdered}

pub reports-ordered : ReportsOrdered
unfolding examine_rows archive_rows read_rows mirror_rows compare_rows
reports-ordered =
    record {
      examine = λ v page size count. refl;
      forecast = λ v. refl;
      tell = λ v size. refl;
      size = λ v. refl;
      archive = λ v size. refl;
      read = λ a size. refl;
      mirror = λ v w. refl;
      compare = λ v w size. refl;
    }
