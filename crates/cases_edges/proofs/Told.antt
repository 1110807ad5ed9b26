-- What a report says, at two calls: a Write of the last page, and a Load of a page whose image was never written.
use Prim.Native.Nat.{ℕ}
use mathlib.Core.Path.{◌≡◌, refl}
use mathlib.Core.Bool.{true}
use mathlib.Core.List.{List, [], ◌∷◌}
use lib.ListN.{replicate, take, length-replicate}
use Rattle.model.specs.Bytes.{splice}
use Rattle.model.specs.Geometry.{page_at}
use Rattle.model.specs.Outcome.{one_item}
use Rattle.model.specs.Calls.{outcome_of}
use Rattle.model.specs.History.{Machine}
use Rattle.model.specs.declared.geometry.Heading.TheVariants.{Second}
use Rattle.model.specs.declared.{answer.Class.TheVariants.Failed, answer.Start.Start, answer.Repair.Repair}
use Rattle.model.specs.declared.answer.Answer.TheVariants.{Done, Repaired}
use Rattle.face.specs.Numbers.{numbers_of, state_of, fits}
use Rattle.face.specs.Face.{face_of}
use Rattle.face_laws.proofs.Reports.{reports-tell}
use Rattle.cases.specs.Build.{image_under, memory_in}
use Rattle.cases.specs.Calls.{load, write}
use Rattle.cases.proofs.Tests.{holds, state_in}
use Rattle.cases_c.specs.OpenedForC.{opened_for_c}
use Rattle.cases_c.specs.Reported.{forced, let_go}
use Rattle.cases_c.specs.Faces.{lent}

abbrev memory_of : Machine → List ℕ
memory_of w = memory_in w.power

abbrev numbers : Machine → List ℕ
numbers w = numbers_of (state_in w.power)

-- ---- Write 2

abbrev image : List ℕ
image = image_under Second 2 2 (replicate 244 9)

fits-forced : fits (numbers forced) ≡ true
unfolding opened_for_c
fits-forced = holds (fits (numbers forced)) tt

done : (outcome_of (write 2) forced.volume (memory_of forced) (state_of (numbers forced))).answer ≡ Done
unfolding opened_for_c
done = refl

stored : (outcome_of (write 2) forced.volume (memory_of forced) (state_of (numbers forced))).stored ≡ one_item (page_at 2) image
unfolding opened_for_c
stored = refl

pub written : ((face_of (write 2) forced.volume (memory_of forced) (numbers forced) lent).report ≡ 0 ∷ 0 ∷ 0 ∷ 264 ∷ 256 ∷ [])
    × ((face_of (write 2) forced.volume (memory_of forced) (numbers forced) lent).volume ≡ splice forced.volume 264 image)
written =
    let t = reports-tell (write 2) forced.volume (memory_of forced) (numbers forced) lent fits-forced (length-replicate {A = ℕ} 5 9) in
    let i = t.item (page_at 2) image done stored in
    (i.0, i.1)

-- ---- Load 1

abbrev repair : Repair
repair = record { class = Failed; start = Start.Format; count = 2 }

fits-gone : fits (numbers let_go) ≡ true
unfolding opened_for_c
fits-gone = holds (fits (numbers let_go)) tt

repaired : (outcome_of (load 1 1) let_go.volume (memory_of let_go) (state_of (numbers let_go))).answer ≡ Repaired repair
unfolding opened_for_c
repaired = refl

pub loaded : take 3 (face_of (load 1 1) let_go.volume (memory_of let_go) (numbers let_go) lent).report ≡ 4 ∷ 3 ∷ 2 ∷ []
loaded =
    let t = reports-tell (load 1 1) let_go.volume (memory_of let_go) (numbers let_go) lent fits-gone (length-replicate {A = ℕ} 5 9) in
    (t.repair repair repaired).1
