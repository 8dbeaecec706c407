-- A type of plain data, as a walk by hand meets it: a parameter, a result or a local that is passed by value.
--
-- Main definitions: `Plain`, with the row of a type, its MIR type and its machine value; `u8_plain`, `u64_plain`, `usize_plain`, `bool_plain`.
-- Main statements: `known` (what is related to some machine value is related to `val`), `only_val` (it is that value), `own` (what plain data
-- owns is had for nothing).
use mathlib.Core.Path.{◌≡◌, refl, ap, subst}
use mathlib.Core.List.{List, [], ◌∷◌}
use seplogic.Ra.Ura.{Ura}
use lib.Dec.{T}
use mir.Syntax.{Ty, w8, w64, ty_bool, ty_int}
use mir.Val.{Val, vbool, vint, has_ty, WT}
use base.Fml.{ftrue}
use types.Logic.{Logic}
use types.Kit.{Goal, Item, ‵, Step}
use denote.RattleType.{RattleType}
use denote.Laws.{Is, Tells, Makes}
use denote.Plain.{bool_Lawful, bool_Makes, bool_Tells, uint_Lawful, uint_Makes, uint_Tells}
use denote.Builtin.{bool, u8, u64, usize}
use denote.Exit.{Last, left, yes}
use denote.Steps.{owned}

pub record Plain : Type 2 where
  pub row : RattleType
  pub ty : Ty
  pub val : row.Denot → Val
  -- the machine value is `val`, has the MIR type, and what it owns is a fact
  pub tells : Tells row (Is row) (λ x. val x ∷ [])
  pub typed : {M : Type 1} {𝓤 : Ura M} (𝓛 : Logic 𝓤) → (x : row.Denot) (u : Val) → Is row x (u ∷ []) → T (has_ty ty u) × WT u
  pub makes : {M : Type 1} {𝓤 : Ura M} (𝓛 : Logic 𝓤) → Makes 𝓛 row (Is row)
  -- at exit it is what it was
  pub last : (x : row.Denot) → Last (row.exit yes) x
  pub silent : (x : row.Denot) (w : Last (row.exit yes) x) → left (row.exit yes) x w ≡ ftrue

pub known : (P : Plain) (x : P.row.Denot) (u : Val) → Is P.row x (u ∷ []) → Is P.row x (P.val x ∷ [])
known P x u is = subst (Is P.row x) (P.tells x _ is) is

pub only_val : (P : Plain) (x : P.row.Denot) (u : Val) → Is P.row x (u ∷ []) → u ≡ P.val x
only_val P x u is = ap head (P.tells x _ is)
  where
    head : List Val → Val
    head [] = u
    head (v ∷ vs) = v

pub own : {M : Type 1} {𝓤 : Ura M} {𝓛 : Logic 𝓤} {K : Type 0} {Γ : List (Item 𝓤)} {G : Goal 𝓤 𝓛.H} → K → (P : Plain) (x : P.row.Denot) (vs : List Val) → Is P.row x vs
    → Step K 𝓛 (‵ (P.row.own_val x vs) ∷ Γ) G Γ G
own {𝓤 = 𝓤} {𝓛 = 𝓛} t P = owned t P.row (Is P.row) (P.makes 𝓛)

abbrev pub u8_plain : Plain
u8_plain = record { row = u8; ty = ty_int w8; val = vint w8; tells = uint_Tells w8; typed = λ 𝓛 x u is. ((uint_Lawful 𝓛 w8).typed x _ is).0; makes = λ 𝓛. uint_Makes 𝓛 w8; last = λ x. tt; silent = λ x w. refl }

abbrev pub u64_plain : Plain
u64_plain = record { row = u64; ty = ty_int w64; val = vint w64; tells = uint_Tells w64; typed = λ 𝓛 x u is. ((uint_Lawful 𝓛 w64).typed x _ is).0; makes = λ 𝓛. uint_Makes 𝓛 w64; last = λ x. tt; silent = λ x w. refl }

abbrev pub usize_plain : Plain
usize_plain = record { row = usize; ty = ty_int w64; val = vint w64; tells = uint_Tells w64; typed = λ 𝓛 x u is. ((uint_Lawful 𝓛 w64).typed x _ is).0; makes = λ 𝓛. uint_Makes 𝓛 w64; last = λ x. tt; silent = λ x w. refl }

abbrev pub bool_plain : Plain
bool_plain = record { row = bool; ty = ty_bool; val = vbool; tells = bool_Tells; typed = λ 𝓛 x u is. ((bool_Lawful 𝓛).typed x _ is).0; makes = λ 𝓛. bool_Makes 𝓛; last = λ x. tt; silent = λ x w. refl }
