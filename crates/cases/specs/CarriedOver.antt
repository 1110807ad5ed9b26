-- A worked legal history of a volume that is carried over: a Start cut and left new, a torn restamp, a word-sealed
-- image returned before and after Finish, chat between, and the ring that the log then is.
use Rattle.std.specs.Prelude.{List, [], ◌∷◌, ◌++◌}
use Rattle.model.specs.Geometry.{page_at, slot_at}
use Rattle.cases.specs.Calls.{begin, load, force, write, backup, note, start_carry, restamp, finish_carry}
use Rattle.model.specs.AbstractLog.{old, new, torn}
use Rattle.model.specs.History.{restart, crash, crash_in, damage}
use Rattle.model.specs.declared.geometry.Heading.TheVariants.{First}
use Rattle.model.specs.declared.answer.Class.TheVariants.{Good, Behind, Failed}
use Rattle.model.specs.declared.change.Change.TheVariants.{Format}
use Rattle.cases.specs.Words.{from_own, from_backup, from_format, refused, done, idle, shown}
use Rattle.cases.specs.Build.{broken, memory}
use Rattle.cases.specs.Prologues.{pages_forced, page_forced}
use Rattle.cases.specs.Worked.{Worked, told, quiet}
use Rattle.cases.specs.Slides.{all_done, does, logged, slid, slide}
use Rattle.cases.specs.Carried.{word_image, byte_image}

abbrev pub carried_over : Worked
carried_over =
    record {
      name = "carried over";
      heading = First;
      pages = 2;
      slots = 2;
      records = 4;
      notes = 8;
      events =
          all_done (pages_forced 2)
          ++ (does (write 1) done
          ∷ does note done
          ∷ does (write 2) done
          ∷ does note done
          ∷ does (backup 1 1) done
          ∷ does note done
          ∷ does restamp (refused 1)
          ∷ quiet (crash_in start_carry old)
          ∷ told (restart (memory 2)) done
          ∷ quiet (crash_in start_carry new)
          ∷ told (restart (memory 2)) done
          ∷ does start_carry (refused 1)
          ∷ does (load 1 1) (from_own Good 0)
          ∷ does (slide 1 (0x41 ∷ [])) done
          ∷ does force done
          ∷ does restamp done
          ∷ quiet (crash_in restamp (torn (broken (byte_image 2 2 9))))
          ∷ told (restart (memory 2)) done
          ∷ does finish_carry (refused 20)
          ∷ does (load 2 2) (from_format Failed 1)
          ∷ does (load 1 1) (from_own Behind 1)
          ∷ does (write 1) done
          ∷ does note done
          ∷ does restamp done
          ∷ does restamp idle
          ∷ quiet (damage (page_at 1) (word_image 1 1 7))
          ∷ does finish_carry (refused 20)
          ∷ does restamp done
          ∷ does restamp idle
          ∷ does finish_carry done
          ∷ does finish_carry (refused 1)
          ∷ does (slide 2 (0x42 ∷ [])) done
          ∷ does force done
          ∷ does (slide 1 (0x43 ∷ [])) done
          ∷ does force done
          ∷ does (slide 2 (0x44 ∷ [])) (refused 12)
          ∷ quiet (damage (page_at 1) (word_image 1 1 7))
          ∷ told (restart (memory 2)) done
          ∷ does (load 1 1) (from_backup Failed 2)
          ∷ []);
      durable = logged 1 (Format 7) [] ∷ logged 2 (Format 9) [] ∷ slid 1 (0x41 ∷ []) ∷ slid 2 (0x42 ∷ [])
          ∷ slid 1 (0x43 ∷ []) ∷ [];
      shows =
          shown (from_backup Failed 2) 5 (0x43 ∷ 0x41 ∷ 7 ∷ 7 ∷ 7 ∷ 7 ∷ [])
          ∷ shown (from_format Failed 2) 4 (0x42 ∷ 9 ∷ 9 ∷ 9 ∷ 9 ∷ 9 ∷ []) ∷ [];
    }

-- The forged slot of `CarriedEvents`, as a legal history: the forgery is carried over with the rest, the backup that is
-- stored over it is page 2's, and it serves.
abbrev pub forgery_carried : Worked
forgery_carried =
    record {
      name = "forgery carried over";
      heading = First;
      pages = 2;
      slots = 2;
      records = 4;
      notes = 8;
      events =
          all_done (pages_forced 2)
          ++ (does (backup 1 1) done
          ∷ does note done
          ∷ quiet (damage (slot_at 1) (word_image 2 2 0xEE))
          ∷ does (backup 1 2) done
          ∷ does note done
          ∷ does start_carry done
          ∷ does restamp done
          ∷ does (backup 2 1) done
          ∷ does note done
          ∷ does restamp done
          ∷ does restamp idle
          ∷ quiet (damage (slot_at 1) (word_image 1 1 7))
          ∷ quiet (damage (slot_at 1) (byte_image 2 2 9))
          ∷ does finish_carry done
          ∷ quiet crash
          ∷ []);
      durable = logged 1 (Format 7) [] ∷ logged 2 (Format 9) [] ∷ [];
      shows =
          shown (from_backup Failed 0) 1 (7 ∷ 7 ∷ 7 ∷ 7 ∷ 7 ∷ 7 ∷ [])
          ∷ shown (from_backup Failed 0) 2 (9 ∷ 9 ∷ 9 ∷ 9 ∷ 9 ∷ 9 ∷ []) ∷ [];
    }

-- The same durable changes on a volume that no Start met: demand 3 says that every page is shown the same.
abbrev pub not_carried : Worked
not_carried =
    record {
      name = "not carried over";
      heading = First;
      pages = 2;
      slots = 0;
      records = 2;
      notes = 0;
      events =
          all_done (page_forced 1)
          ++ (does (begin 2 1 9) done
          ∷ does force done
          ∷ []);
      durable = logged 1 (Format 7) [] ∷ logged 2 (Format 9) [] ∷ [];
      shows =
          shown (from_format Failed 1) 1 (7 ∷ 7 ∷ 7 ∷ 7 ∷ 7 ∷ 7 ∷ [])
          ∷ shown (from_format Failed 1) 2 (9 ∷ 9 ∷ 9 ∷ 9 ∷ 9 ∷ 9 ∷ []) ∷ [];
    }

abbrev pub carried_histories : List Worked
carried_histories = carried_over ∷ forgery_carried ∷ not_carried ∷ []
