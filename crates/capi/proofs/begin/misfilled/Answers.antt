use Rattle.capi.proofs.ArgumentLaws.{misfilled-unknown, misfilled-unfit, misfilled-first, misfilled-last}
use Rattle.laws.proofs.Refused.{refusal-some}
use Rattle.numbers.proofs.FitLaws.{long}
use Rattle.face_step.proofs.FaceLaws.{both}
use Rattle.laws.proofs.Tables.{and_left}
use lib.Dec.{eqb}
use mathlib.Core.Path.{refl, sym, ap, ◌∙◌}
use Rattle.model.specs.Geometry.{geometry_of}
use Rattle.model.specs.State.{frame_count}
use Rattle.model.specs.Refused.{refusal_number, error_number}
use Rattle.capi.proofs.begin.misfilled.Goals as goal

pub returns-then-not-known : goal.returns-then-not-known
returns-then-not-known c = λ m report em er.
    let a = c.args in
    let k = c.known in
    misfilled-unknown a.page a.frame a.volume.now m a.state.now report k.result k.ensures c.if-not-known.true

pub returns-then-fits-numbers : goal.returns-then-fits-numbers
returns-then-fits-numbers c = λ m report em er.
    let a = c.args in
    let f = c.fits in
    misfilled-unfit a.page a.frame a.volume.now m a.state.now report a.numbers er f.result f.ensures
    c.if-fits-numbers.true _ _ refl c.bad_buffer.ensures

pub decode-s-requires : goal.decode-s-requires
decode-s-requires c =
    let f = c.fits in
    let a = c.args in
    long a.state.now (sym f.ensures ∙ and_left f.result (eqb a.numbers 5)
    (both f.result (eqb a.numbers 5) c.if-fits-numbers.false))

pub returns-in-Err : goal.returns-in-Err
returns-in-Err c = λ m report em er.
    let a = c.args in
    let f = c.fits in
    let d = c.decode-s in
    misfilled-first a.page a.frame a.volume.now m a.state.now report a.numbers er f.result f.ensures
    c.if-fits-numbers.false a.size em d.result d.ensures (refusal_number c.in-Err.refused)
    (λ y l. ap error_number (sym c.in-Err.is) ∙ c.refusal.ensures y l) (refusal-some c.in-Err.refused)

pub returns-in-Ok : goal.returns-in-Ok
returns-in-Ok c = λ m report em er.
    let a = c.args in
    let f = c.fits in
    let d = c.decode-s in
    misfilled-last a.page a.frame a.volume.now m a.state.now report a.numbers er f.result f.ensures
    c.if-fits-numbers.false a.size em d.result d.ensures (error_number c.refusal.result) c.refusal.ensures
    (ap error_number c.in-Ok.is) (geometry_of a.volume.now) refl (frame_count a.size) refl _ _ refl c.own.ensures
