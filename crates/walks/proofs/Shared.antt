-- A `&κ mut [T]` that is lent as a `&κ' [T]` for a call, and comes back as it was.
--
-- Main definition: `Kept`, what the holder keeps meanwhile: the lender's part at κ', and its own borrow, open, with both halves of its ghost
-- variable. Main statements: `lends_out`, `comes_in`; and `ends_as_was`, of a `&κ mut [T]` that nothing was done with. Assumes `Logic`.
use mathlib.Core.Path.{refl}
use Prim.Native.Nat.{ℕ}
use mathlib.Core.List.{List, [], ◌∷◌}
use lib.ListN.{length}
use seplogic.Ra.Ura.{Ura}
use base.Fraction.{full_share}
use mir.Syntax.{Lifetime}
use mir.Val.{Val}
use base.Logic.{ent, sep}
use base.Fml.{Lft, GName, Share, Fml, Incl, fsep, flft, fdead, fobs, fauth, flent, fobor, fres}
use types.Logic.{Logic, sem, lfts}
use types.Kit.{‵, ◌⊛◌, raw, later, ◌$◌, ◌∵◌, !, qed, move, keep, use1, use2, drop, split, fsplit, fsplit3, fjoin, feq_i, frame, await, updating, now as at_once, done}
use types.Tokens.{lent_back}
use types.Share.{arr_parts}
use denote.RattleType.{RattleType}
use denote.Shadow.{pure_l, pure_i}
use denote.Memory.{shares, shared_of}
use ghost.Rules.{Toks, span}
use denote.Bor.{Bor}
use denote.Shares.{SharesAsFrom}
use denote.Ref.{MutBor}
use denote.Slice.{slice_val, MutSlice, ShrSlice, heres, Room, mut_slice_at, coded_holeys, finally, res-finally}
use denote.Lend.{Held, lends_shr_slice}
use denote.Index.{opens_slice, closes_slice}

module _ (R : RattleType) (κ κ' : Lft) (q : Share) (γ : GName) (b o : ℕ) (ys : List R.Denot) where
  abbrev at : GName → MutBor (List R.Denot)
  at δ = record { ref_ptr = (b, o); ghost_name = δ; now = ys }

  abbrev shown : Bor (List R.Denot)
  shown = record { ref_ptr = (b, o); now = ys }

  -- the whole share of the elements
  abbrev All : Fml
  All = (arr_parts (shares R) (length ys)).part full_share ys b o

  abbrev pub Kept : Fml
  Kept = fsep (flent κ' All) (fsep (fobor κ q (Held R (length ys) b o γ)) (fsep (fobs γ ((coded_holeys R).code (heres R ys))) (fauth γ ((coded_holeys R).code (heres R ys)))))

  module _ {M : Type 1} {𝓤 : Ura M} (𝓛 : Logic 𝓤) (ℓ ℓ' : Lifetime) where
    open 𝓛 use {H, A}

    abbrev vals : List Val
    vals = slice_val (b, o) (length ys) ∷ []

    -- as the library lends a slice: by tokens ts of lifetimes that R's shares go by
    pub lends_out : (l : Lft) → SharesAsFrom 𝓛 full_share R (shared_of R) l → (ts : Toks) → Incl (span ts) l → Incl (span ts) κ'
        → ent 𝓤 (sep 𝓤 (sem 𝓛 ((MutSlice ℓ κ R).own_val (at γ) vals)) (sep 𝓤 (A.lft κ q) (lfts 𝓛 ts)))
        (H.⇛ (sep 𝓤 (sem 𝓛 ((ShrSlice ℓ' κ' R).own_val shown vals)) (sep 𝓤 (sem 𝓛 Kept) (lfts 𝓛 ts))))
    lends_out l s ts inc sp =
        qed 𝓛 (‵ ((MutSlice ℓ κ R).own_val (at γ) vals) ∷ ‵ (flft κ q) ∷ raw (lfts 𝓛 ts) ∷ []) ∵ updating ! $ fsplit ! $ pure_l ! (mut_slice_at R (at γ) vals) (λ p. fsplit ! $ opens_slice ! tt R ys b o $
        feq_i ! ℕ (length ys) (length ys) refl $ fjoin ! $ move ! (0 ∷ 4 ∷ []) $
        use2 𝓛 (later ((‵ ((ShrSlice ℓ' κ' R).own_val shown vals) ⊛ ‵ (flent κ' All)) ⊛ raw (lfts 𝓛 ts))) (lends_shr_slice 𝓛 R ℓ' κ' full_share ys b o p.1 l s ts inc sp) $ await ! tt $ split ! $ split ! $
        -- [the new slice; the lender's part at κ'; the tokens; the open borrow at κ; obs γ; auth γ]
        at_once ! $ frame ! $
        move ! (3 ∷ 4 ∷ []) $ fjoin ! $ move ! (3 ∷ 0 ∷ []) $ fjoin ! $ move ! (1 ∷ 0 ∷ []) $ fjoin ! $ done !)

    pub comes_in : Room R (length ys) → ent 𝓤 (sep 𝓤 (A.dead κ') (sem 𝓛 Kept)) (H.⇛ (sep 𝓤 (sem 𝓛 ((MutSlice ℓ κ R).own_val (at γ) vals)) (A.lft κ q)))
    comes_in room =
        qed 𝓛 (‵ (fdead κ') ∷ ‵ Kept ∷ []) ∵ updating ! $ move ! (1 ∷ []) $ fsplit ! $ move ! (2 ∷ 0 ∷ []) $ lent_back ! tt $ fsplit ! $ drop ! $ move ! (1 ∷ []) $ fsplit3 ! $ move ! (3 ∷ []) $
        closes_slice ! tt R ys ys refl b o $ at_once ! $ fjoin ! $ pure_i ! (mut_slice_at R (at γ) vals) (tt, (tt, tt)) (refl, room) $ fjoin ! $ done !

    pub ends_as_was : ent 𝓤 (sem 𝓛 ((MutSlice ℓ κ R).own_val (at γ) vals)) (sem 𝓛 (finally R γ ys))
    ends_as_was =
        qed 𝓛 (‵ ((MutSlice ℓ κ R).own_val (at γ) vals) ∷ []) ∵ fsplit ! $ move ! (1 ∷ []) $ fsplit ! $
        use1 𝓛 (‵ (fres γ ((coded_holeys R).code (heres R ys)))) (𝓛.names.obs-res γ ((coded_holeys R).code (heres R ys))) $
        use1 𝓛 (‵ (finally R γ ys)) (res-finally 𝓛 ℓ κ R γ ys) $ keep ! (0 ∷ []) $ done !
