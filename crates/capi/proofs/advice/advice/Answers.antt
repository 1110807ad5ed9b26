-- `capi::advice::advice` meets its contract.
use mathlib.Core.Path.{refl, ◌∙◌, ap}
use mathlib.Core.List.{[]}
use lib.ListN.{get_or}
use Rattle.model.specs.declared.state.State.{State}
use Rattle.upkeep_policy.specs.Upkeep.{advise_of}
use Rattle.upkeep_policy.specs.declared.upkeep.Advised.{Advised}
use Rattle.face.specs.Advice.{upkeep_numbers, upkeep_face}
use Rattle.capi.proofs.AdviceLaws.{upkeep_tail, upkeep_report, upkeep-number, unknown, unfit, long-enough, turned_down, reported}
use Rattle.capi.proofs.advice.advice.Goals as goal

pub returns-then-not-known-clause-found : goal.returns-then-not-known-clause-found
unfolding upkeep_face
returns-then-not-known-clause-found c =
    let a = c.args in
    let k = c.known in
    let e = unknown a.volume.now a.memory.now a.state.now a.old.now (upkeep_tail a.memory.now a.frame) (upkeep_report a.volume.now a.memory.now a.state.now a.frame) k.result k.ensures c.if-not-known.true in
    (c.from.ensures ∙ e.0, e.1)

pub returns-then-fits-old-clause-found : goal.returns-then-fits-old-clause-found
unfolding upkeep_face
returns-then-fits-old-clause-found c =
    let a = c.args in
    let f = c.fits in
    let e = unfit a.volume.now a.memory.now a.state.now a.old.now (upkeep_tail a.memory.now a.frame) (upkeep_report a.volume.now a.memory.now a.state.now a.frame) f.result f.ensures
    c.if-fits-old.true _ c.from-then-fits-old.result refl (c.from-then-fits-old.ensures ∙ c.bad_buffer.ensures) in
    e

pub decode-requires : goal.decode-requires
decode-requires c =
    let a = c.args in
    let f = c.fits in
    long-enough a.volume.now a.memory.now a.state.now a.old.now [] [] f.result f.ensures c.if-fits-old.false

pub returns-then-no-ne0-clause-found : goal.returns-then-no-ne0-clause-found
unfolding upkeep_face
returns-then-no-ne0-clause-found c =
    let a = c.args in
    let f = c.fits in
    let o = c.advise-a in
    let e = turned_down a.volume.now a.memory.now a.state.now a.old.now (upkeep_tail a.memory.now a.frame) (upkeep_report a.volume.now a.memory.now a.state.now a.frame) f.result f.ensures c.if-fits-old.false c.refusal_in-no.result
    (upkeep-number a.volume.now a.memory.now c.decode.result _ a.frame o.result _ c.decode.ensures o.ensures
    c.refusal_in-no.ensures) c.if-no-ne0.true in
    e

pub returns-clause-found : goal.returns-clause-found
unfolding upkeep_face
returns-clause-found c =
    let a = c.args in
    let f = c.fits in
    let o = c.advise-a in
    let q = c.refusal_in-no in
    let e = reported a.volume.now a.memory.now a.state.now a.old.now (upkeep_tail a.memory.now a.frame) (upkeep_report a.volume.now a.memory.now a.state.now a.frame) f.result f.ensures c.if-fits-old.false q.result
    (upkeep-number a.volume.now a.memory.now c.decode.result _ a.frame o.result _ c.decode.ensures o.ensures q.ensures)
    c.if-no-ne0.false _
    (c.upkeep_numbers.ensures ∙ ap (upkeep_numbers c.advise-a.result.upkeep) c.from-2.ensures
    ∙ ap (λ (k : Advised). upkeep_numbers k.upkeep (get_or k.payload 0 0)) (o.ensures ∙ ap (λ (z : State). advise_of a.volume.now a.memory.now z a.frame) c.decode.ensures)) in
    e
