-- Laws of the pass over two boards.
use Rattle.std.proofs.Common.{◌≡◌, ℕ, ◌+◌, ◌<◌, Bool, ◌&&◌, List, add-one, arith, false, get_or, length, refl, sym, true}
use Rattle.model.specs.declared.Gate.{Gate}
use Rattle.model.specs.declared.Record.{Record}
use Rattle.model.specs.Calls.{idle_record}
use Rattle.model.specs.Lists.{all_below}
use Rattle.model.specs.Sound.{sound}
use Rattle.model.proofs.Counting.{below_at}
use Rattle.model.proofs.IsSound.{sound_use}
use Rattle.model.proofs.Logic.{by_bool, clash}
use Rattle.model.proofs.RecordTests.{held_i}
use Rattle.comparing.specs.Boards.{Readable}

-- Each record of a sound list can be read.
pub readable : (g : Gate) (l : List Record) (r : Record) (i n : ℕ) → r ≡ get_or l i idle_record → sound g l ≡ true → length l ≡ n → i < n → Readable g r
readable g l r i n e s q b =
    let a = sound_use g l s in
    let h : i < length l = omega arith in
    rw e
    (record {
      ticket_in = λ z. (a.records i h).ticket_in (held_i (get_or l i idle_record) z);
      valid_in = a.valid_in_lem;
    })

-- A test of one number more.
pub below_next : (p : ℕ → Bool) (i : ℕ) → all_below p (i + 1) ≡ (all_below p i && p i)
unfolding all_below
below_next p i = rw add-one refl

-- Not each number below n passes where one of them fails.
pub below_not : (p : ℕ → Bool) (n i : ℕ) → i < n → false ≡ p i → false ≡ all_below p n
below_not p n i h e = by_bool (all_below p n) (λ a. clash _ (below_at p n a i h) (sym e)) sym
