-- What lies in memory: a cell together with what its value owns.
--
-- Main statements: `lies_in` (a value lies where its cell is and what it owns is had), `lies_out` (the two again, at some machine values).
-- Assumes `Logic`.
use Prim.Native.Nat.{ℕ}
use mathlib.Core.List.{List, [], ◌∷◌}
use seplogic.Ra.Ura.{Ura}
use base.Fraction.{full_share}
use mir.Val.{Val}
use base.Logic.{ent, sep, ex}
use base.Fml.{fsep}
use types.Logic.{Logic, sem}
use types.Kit.{‵, ◌$◌, ◌∵◌, !, qed, fjoin, fpack, fpick, fsplit, show, done}
use denote.RattleType.{RattleType}
use denote.Memory.{mem, cell_at, part_of}

module _ {M : Type 1} {𝓤 : Ura M} (𝓛 : Logic 𝓤) (R : RattleType) (h : R.Denot) (b o : ℕ) where
  pub lies_in : (vs : List Val) → ent 𝓤 (sep 𝓤 (sem 𝓛 (cell_at full_share R.mir vs b o)) (sem 𝓛 (R.own_val h vs))) (sem 𝓛 ((mem R).own_at h b o))
  unfolding part_of
  lies_in vs = qed 𝓛 (‵ (cell_at full_share R.mir vs b o) ∷ ‵ (R.own_val h vs) ∷ []) ∵ fjoin ! $ fpack ! (List Val) (λ us. fsep (cell_at full_share R.mir us b o) (R.own_val h us)) vs $ done !

  pub lies_out : ent 𝓤 (sem 𝓛 ((mem R).own_at h b o)) (ex 𝓤 (λ (vs : List Val). sep 𝓤 (sem 𝓛 (cell_at full_share R.mir vs b o)) (sem 𝓛 (R.own_val h vs))))
  unfolding part_of
  lies_out = qed 𝓛 (‵ ((mem R).own_at h b o) ∷ []) ∵ fpick ! (λ vs. fsplit ! $ show ! (λ (us : List Val). sep 𝓤 (sem 𝓛 (cell_at full_share R.mir us b o)) (sem 𝓛 (R.own_val h us))) vs $ done !)
