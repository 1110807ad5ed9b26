-- `change::apply`: each arm makes what `apply_change` says of its kind.
use native.Mathlib.Omega.{arith}
use native.Mathlib.Nat.{sub-zero}
use lib.ListN.{length-take}
use Rattle.item.proofs.Changes.{Ready, put-ready, slide-ready, format-is, put_is, slide-is}
use Rattle.item.proofs.change.apply.Goals.{In-Put, In-Slide}
use Rattle.item.proofs.change.apply.Goals as goal

-- what is known of a put, and of a slide
put-known : (c : goal.In-Put) → Ready c.in-Put.offset c.in-Put.length c.args.payload.now c.args.body.now
put-known c = put-ready _ _ _ c.requires _ _ c.in-Put.is

slide-known : (c : goal.In-Slide) → Ready c.in-Slide.offset c.in-Slide.length c.args.payload.now c.args.body.now
slide-known c = slide-ready _ _ _ c.requires _ _ c.in-Slide.is

pub put-requires : goal.put-requires
put-requires c =
    let z = put-known (goal.at.put-requires c).In-Put in
    simp (sub-zero, length-take) (omega (arith, z.room, z.held, z.body))

pub raise-requires : goal.raise-requires
raise-requires c =
    let z = slide-known (goal.at.raise-requires c).In-Slide in
    omega (arith, z.room, z.body)

pub put-requires-in-Slide : goal.put-requires-in-Slide
put-requires-in-Slide c =
    let z = slide-known (goal.at.put-requires-in-Slide c).In-Slide in
    simp (sub-zero, length-take) (omega (arith, z.room, z.held, z.body, c.raise.auto))

pub returns-in-Format : goal.returns-in-Format
returns-in-Format c = format-is _ _ _ _ _ c.in-Format.is c.requires.2 (c.fill.ensures.after (λ y e. e))

pub returns-in-Put : goal.returns-in-Put
returns-in-Put c =
    put_is _ _ _ _ _ _ c.in-Put.is (put-known (goal.at.returns-in-Put c).In-Put)
    (simp (c.from.ensures, c.from-n.ensures, sub-zero) at c.put.ensures)

pub returns-in-Slide : goal.returns-in-Slide
returns-in-Slide c =
    slide-is _ _ _ _ _ _ _ c.in-Slide.is (slide-known (goal.at.returns-in-Slide c).In-Slide)
    (rw (c.from-at.ensures, c.from-n-in-Slide.ensures) at c.raise.ensures)
    (simp (c.from-at.ensures, c.from-n-in-Slide.ensures, sub-zero) at c.put-in-Slide.ensures)
