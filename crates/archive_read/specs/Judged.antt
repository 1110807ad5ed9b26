-- Records that were judged before they are replayed: they stand in some page's segment, behind some number. Document
-- 02, §6: "A reader checks it, then goes through it once and rebuilds every page".
use Rattle.std.specs.Prelude.{ℕ, ◌≡◌, true, List}
use Rattle.reports.specs.Archive.{valid_segment}

pub record Judged (rs : List (List ℕ)) : Type 0 where
  pub page : ℕ
  pub last : ℕ
  pub valid : valid_segment page last rs ≡ true
