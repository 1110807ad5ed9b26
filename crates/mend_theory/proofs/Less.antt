-- History's invariant without its claim of all pages, so that it holds of histories with damage too.
use mathlib.Core.List.{List}
use Prim.Native.Nat.{ℕ}
use Rattle.model.specs.Outcome.{StoredItem}
use Rattle.model.specs.AbstractLog.{Logged, AbstractLog}
use Rattle.model.specs.History.{Power, off, on}
use Rattle.model.specs.declared.{geometry.Geometry.Geometry, item.Note.Note}
use Rattle.history.proofs.Inv.{Inv, PendingOk, PowerInv}
use Rattle.model.specs.Types.{PendingNote, None, Some}

pending-less : (C : Type 0) (g : Geometry) (v : List ℕ) (k : List Logged) (ns : List Note) (y : PendingNote)
    → PendingOk C g v k ns y → PendingOk ⊥ g v k ns y
pending-less C g v k ns None t = tt
pending-less C g v k ns (Some n) t = (t.0, t.1, t.2, t.3, (λ c. absurd c))

power-less : (C : Type 0) (g : Geometry) (v : List ℕ) (x : Power) (b : AbstractLog) (ns : List Note)
    → PowerInv C g v x b ns → PowerInv ⊥ g v x b ns
power-less C g v off b ns l = tt
power-less C g v (on m s) b ns l = (
  l.0,
  record {
    F = l.1.F;
    memory = l.1.memory;
    log = l.1.log;
    frames = l.1.frames;
    index = l.1.index;
    displaced = l.1.displaced;
    notes-is = l.1.notes-is;
    note-ok = pending-less C g v b.durable ns s.note l.1.note-ok;
  },
)

pub less : (C : Type 0) (g : Geometry) (v : List ℕ) (past : List StoredItem) (x : Power) (b : AbstractLog)
    → Inv C g v past x b → Inv ⊥ g v past x b
less C g v past x b i =
    record {
      ns = i.ns;
      holds = i.holds;
      noted = record {
        few = i.noted.few;
        run = i.noted.run;
        notes = i.noted.notes;
        tail = i.noted.tail;
        fit = i.noted.fit;
        backups = i.noted.backups;
        copies = λ c. absurd c;
      };
      past-ok = i.past-ok;
      live = power-less C g v x b i.ns i.live;
    }
