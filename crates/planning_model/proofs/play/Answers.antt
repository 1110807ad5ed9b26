-- `planning_model::play` meets its contract.
use Rattle.planning.specs.declared.rehearsal.Rehearsal.{Rehearsal}
use Rattle.planning_model.proofs.Bounds.{played-room, played-more, idle-bounded}
use Rattle.planning_model.proofs.Laws.{play-on, play-end}
use Rattle.planning.specs.Rehearsal.{access_of, play_from, step_on}
use lib.ListN.{drop, get_or}
use Prim.Native.Nat.{◌+◌}
use mathlib.Core.Path.{◌≡◌, sym, ap, ◌∙◌}
use Rattle.planning_model.proofs.play.Goals as goal

pub loop-i-init : goal.loop-i-init
loop-i-init c =
    let a = c.args in
    (ap (λ (m : Rehearsal). play_from a.t 0 m a.events.now) c.start-m.ensures, idle-bounded _ c.start-m.ensures)

pub step-m-requires : goal.step-m-requires
step-m-requires c =
    let k = c in
    let q = k.requires in
    (q.2, q.3, q.4, played-room k.loop-i.i _ k.loop-i.m.pages c.loop-i-test.true q.0 k.loop-i.invariant.1)

pub loop-i-preserved : goal.loop-i-preserved
loop-i-preserved c =
    let k = c in
    let q = k.requires in
    let a = k.args in
    let s : c.step-m.result ≡ step_on a.t (k.loop-i.i + 1) k.loop-i.m (access_of (get_or a.events.now k.loop-i.i 0)) =
    c.step-m.ensures ∙ ap (step_on a.t (k.loop-i.i + 1) k.loop-i.m) c.access.ensures in (
      ap (λ (m : Rehearsal). play_from a.t (k.loop-i.i + 1) m (drop (k.loop-i.i + 1) a.events.now)) s
          ∙ (sym (play-on a.events.now k.loop-i.i c.loop-i-test.true a.t k.loop-i.m)
          ∙ k.loop-i.invariant.0),
      played-more a.t q.3 q.4 k.loop-i.i k.loop-i.m _ _ k.loop-i.invariant.1 s,
    )

pub returns : goal.returns
returns c = sym (play-end _ _ _ _ c.loop-i-test.false) ∙ c.loop-i.invariant.0
