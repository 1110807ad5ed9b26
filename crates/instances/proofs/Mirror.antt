-- Two comparisons of worked histories' volumes, as instances of the theorem: logs that agree, under two headings and counts, so every page
-- shows the same; and one that is a beginning of the other, so a page that is not listed shows the same.
use Prim.Native.Nat.{ℕ, ◌+◌, ◌≤◌}
use mathlib.Core.Path.{◌≡◌, refl, ap, sym, ◌∙◌}
use mathlib.Core.Bool.{false}
use mathlib.Core.List.{List, [], ◌∷◌, append-nil}
use native.Mathlib.Omega.{arith}
use lib.Dec.{eqb→eq}
use lib.ListN.{length, length-append}
use Rattle.model.specs.AbstractLog.{Logged}
use Rattle.model.specs.Claim.{History, reached, durable_of, Agree}
use Rattle.reports.specs.Mirror.{common_of, mirror_of, kind_number, count_number, mirror_refusal, listed, LongestCommon}
use Rattle.model.specs.declared.geometry.Heading.TheVariants.{First, Second}
use Rattle.reports.specs.declared.reading.Comparison.{Comparison}
use Rattle.reports.specs.declared.reading.Comparison.TheVariants.{Refused, FirstLacks, SecondLacks, Differs}
use Rattle.cases.specs.Opened.{opened}
use Rattle.cases.specs.Worked.{history_of}
use Rattle.cases.specs.Histories.{forces_cut, backup_replaced, two_forced}
use Rattle.cases.specs.Slides.{slid}
use Rattle.cases.proofs.Tests.{fails}
use Rattle.reports_theory.proofs.Mirror.{mirror}
use Rattle.instances.proofs.Instances.{cut-computed, replaced-computed, forced-computed}

agrees : (c : Comparison) → kind_number c ≡ 1 → c ≡ Comparison.Agree
agrees (Refused n) e = absurd (omega (arith, e))
agrees Comparison.Agree e = refl
agrees (FirstLacks n) e = absurd (omega (arith, e))
agrees (SecondLacks n) e = absurd (omega (arith, e))
agrees (Differs n) e = absurd (omega (arith, e))

lacks : (c : Comparison) → kind_number c ≡ 2 → count_number c ≡ 1 → c ≡ FirstLacks 1
lacks (Refused n) e f = absurd (omega (arith, e))
lacks Comparison.Agree e f = absurd (omega (arith, e))
lacks (FirstLacks n) e f = ap FirstLacks f
lacks (SecondLacks n) e f = absurd (omega (arith, e))
lacks (Differs n) e f = absurd (omega (arith, e))

abbrev replaced : History
replaced = history_of (backup_replaced First)

abbrev forced : History
forced = history_of (two_forced Second)

abbrev cut : History
cut = history_of (forces_cut First)

-- ---- logs that agree

pub same-logs : (mirror_of (reached replaced).volume (reached forced).volume).answer ≡ Comparison.Agree
unfolding opened
same-logs = agrees _ (eqb→eq (kind_number (mirror_of (reached replaced).volume (reached forced).volume).answer) 1 tt)

pub same-pages : (p : ℕ) → 1 ≤ p → p ≤ replaced.pages → p ≤ forced.pages → (x y : List ℕ) → length x ≡ 256 → length y ≡ 256
    → Agree replaced forced x y p
same-pages = mirror.agreed replaced forced replaced-computed.legal forced-computed.legal same-logs

-- ---- a beginning

pub first-lacks : (mirror_of (reached replaced).volume (reached cut).volume).answer ≡ FirstLacks 1
unfolding opened
first-lacks =
    let a = (mirror_of (reached replaced).volume (reached cut).volume).answer in
    lacks a (eqb→eq (kind_number a) 2 tt) (eqb→eq (count_number a) 1 tt)

taken : mirror_refusal (mirror_of (reached replaced).volume (reached cut).volume).answer ≡ 0
taken = ap mirror_refusal first-lacks

-- the answer is that of the two kept lists
pub durable-lists : LongestCommon (common_of (reached replaced).volume (reached cut).volume) (durable_of replaced) (durable_of cut)
durable-lists = (mirror.durable replaced cut replaced-computed.legal cut-computed.legal taken).0

-- which have two changes in common; one is too short, though both lists begin with it, and three are too many
pub common-two : common_of (reached replaced).volume (reached cut).volume ≡ 2
unfolding opened
common-two = eqb→eq (common_of (reached replaced).volume (reached cut).volume) 2 tt

abbrev two : List Logged
two = (backup_replaced First).durable

pub one-short : LongestCommon 1 (durable_of replaced) (durable_of cut) → ⊥
one-short c =
    let l : length two ≤ 1 =
    c.longest two ([], append-nil two ∙ sym replaced-computed.durable) (slid 1 (0x46 ∷ []) ∷ [], sym cut-computed.durable) in
    omega (arith, l)

pub one_more : LongestCommon 3 (durable_of replaced) (durable_of cut) → ⊥
one_more c =
    let l : length c.front + length c.first.0 ≡ length two =
    sym (length-append c.front c.first.0) ∙ ap length (c.first.1 ∙ replaced-computed.durable) in
    omega (arith, l, c.size)

-- the record that is lacking is of page 1; page 2 is not listed
unlisted : listed (reached replaced).volume (reached cut).volume 2 ≡ false
unfolding opened
unlisted = fails (listed (reached replaced).volume (reached cut).volume 2) tt

pub same-page : (x y : List ℕ) → length x ≡ 256 → length y ≡ 256 → Agree replaced cut x y 2
same-page =
    mirror.same replaced cut replaced-computed.legal cut-computed.legal taken 2 (omega arith) (omega arith) (omega arith) unlisted
