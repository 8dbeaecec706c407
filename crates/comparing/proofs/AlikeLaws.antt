-- The pass over two boards decides whether two sound gates are alike.
use Rattle.std.proofs.Common.{◌≡◌, List, Ok, length, refl, true}
use Rattle.model.specs.declared.Gate.{Gate}
use Rattle.model.specs.declared.Record.{Record}
use Rattle.model.specs.Board.{SoundGate, same_board}
use Rattle.model.specs.Alike.{compared}
use Rattle.model.specs.Sound.{sound, sound_in}
use Rattle.model.specs.Steps.{block_of}
use Rattle.model.proofs.Board.{alike_in_one_pass}
use Rattle.model.proofs.IsSound.{own_fits}
use Rattle.model.proofs.Logic.{and_l, by_bool}

-- A sound gate and its list: what the pass relies on.
sound_gate : (g : Gate) (l : List Record) → sound g l ≡ true → length l ≡ g.n → SoundGate (block_of g) g l
sound_gate g l e n =
    let s = and_l (sound_in (block_of g) g l) _ e in
    record { fits = own_fits g l s; is_sound = s; list_len = n }

pub one_pass : (g : Gate) (l : List Record) (h : Gate) (m : List Record) → sound g l ≡ true → sound h m ≡ true → length l ≡ g.n → length m ≡ h.n
    → compared g l h m ≡ Ok (same_board (block_of g) g l (block_of h) h m)
unfolding compared
one_pass g l h m s t a b =
    rw (alike_in_one_pass (block_of g) g l (block_of h) h m (sound_gate g l s a) (sound_gate h m t b))
    (by_bool (same_board (block_of g) g l (block_of h) h m) (λ e. rw e refl) (λ e. rw e refl))
