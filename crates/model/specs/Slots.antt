-- Which slot a plugin gets, apart from the gate: "Slots are numbered 1 to k. The slot returned longest ago goes out first; at opening they lie
-- in rising order."
--
-- Nothing of the gate's words, records or answers reaches it: it is given each call, its plugin, and what the plain queue said to it.
use Rattle.std.specs.Prelude.{ℕ, ◌-◌, cond, List, [], ◌∷◌, ◌++◌, drop, get_or, set, replicate, eqb}
use Rattle.model.specs.declared.Call.{Call}
use Rattle.model.specs.declared.Call.TheVariants.{Take, Look, Leave, Place, Stop, Wake}
use Rattle.model.specs.Lists.{numbers_from}
use Rattle.model.specs.Queue.{Said}

-- The free slots, the one returned longest ago first, and each plugin's slot, 0 if it has none.
pub record Slots : Type 0 where
  pub free : List ℕ
  pub owned : List ℕ

-- What a call does to the slots, and the slot that it gives, 0 if it gives none.
pub record Handed : Type 0 where
  pub slots : Slots
  pub given : ℕ

-- At opening all are free, "in rising order".
abbrev pub open_slots : ℕ → ℕ → Slots
open_slots n k = record { free = numbers_from 1 k; owned = replicate n 0 }

abbrev pub unmoved : Slots → Handed
unmoved s = record { slots = s; given = 0 }

-- The head of the row goes to p.
abbrev pub hand_out : Slots → ℕ → Handed
hand_out s p = record {
  slots = record { free = drop 1 s.free; owned = set s.owned (p - 1) (get_or s.free 0 0) };
  given = get_or s.free 0 0;
}

-- p's slot, if it has one, goes to the end. "A handed-back turn returns no slot."
abbrev pub take_back : Slots → ℕ → Handed
take_back s p =
    let own = get_or s.owned (p - 1) 0 in
    record { slots = record { free = cond (eqb own 0) s.free (s.free ++ (own ∷ [])); owned = set s.owned (p - 1) 0 }; given = 0 }

-- "A look that answers yes gives the slot." An accepted leave, number 0, returns it.
abbrev pub slot_call : Call → ℕ → Said → Slots → Handed
slot_call Look p said s = cond said.yes (hand_out s p) (unmoved s)
slot_call Leave p said s = cond (eqb said.number 0) (take_back s p) (unmoved s)
slot_call Take p said s = unmoved s
slot_call Place p said s = unmoved s
slot_call Stop p said s = unmoved s
slot_call Wake p said s = unmoved s
