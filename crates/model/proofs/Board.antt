-- Alike is equal boards (A.6), for two sound gates, each in a block that fits.
--
-- From alike to boards: a ticket not yet valid has as many returns as tickets come before it, and 1 (`rank_is`), and the order gives both gates
-- the same number of those. Back: equal returns are equal distances, and returns of 0 are validity.
--
-- Main statements: `alike_is_board`, `alike_in_one_pass`.
use Prim.Native.Nat.{suc, ℕ, ◌<◌}
use mathlib.Core.Path.{ap, ap₂, refl, sym, ◌∙◌, ◌≡◌}
use mathlib.Core.Bool.{Bool, cond, false, not, true, true≢false, ◌&&◌}
use mathlib.Core.List.{List, [], map, ◌∷◌}
use native.Mathlib.Omega.{arith}
use lib.ListN.{get_or-map, get_or, length}
use lib.Dec.{eqb, ltb}
use borrow.Author.Tests.{eq-eqb, eqb-true}
use Rattle.model.specs.declared.Gate.{Gate}
use Rattle.model.specs.declared.Record.{Record}
use Rattle.model.specs.Board.{AlikeInOnePass, AlikeIsBoard, Board, SoundGate, Standing, board_in, same_board, same_standing, standing_in}
use Rattle.model.specs.Calls.{idle_record}
use Rattle.model.specs.Alike.{before_in, holds_invalid}
use Rattle.model.specs.Lists.{count, one_if}
use Rattle.model.specs.Sound.{held, idle, ticket_of}
use Rattle.model.specs.Steps.{Block, distance_in, is_valid, returns_in}
use Rattle.model.proofs.AlikeFacts.{IsAlike, alike_i, alike_use}
use Rattle.model.proofs.Counting.{below_at, below_i}
use Rattle.model.proofs.IsSound.{IsSoundIn, sound_in_use}
use Rattle.model.proofs.Logic.{and_i, and_l, and_r, bool_ext, by_bool, clash, not_i}
use Rattle.model.proofs.Ranks.{invalid_i, invalid_use, rank_is}
use Rattle.model.proofs.Returns.{returns_later, returns_valid, returns_zero}

-- Two lists, place by place.
pub count_both : {A A' : Type 0} (p : A → Bool) (q : A' → Bool) (l : List A) (m : List A') (d : A) (e : A') → length l ≡ length m
    → ((i : ℕ) → i < length l → p (get_or l i d) ≡ q (get_or m i e)) → count p l ≡ count q m
unfolding count
count_both p q [] [] d e n f = refl
count_both p q [] (y ∷ m) d e n f = absurd (omega arith)
count_both p q (x ∷ l) [] d e n f = absurd (omega arith)
count_both p q (x ∷ l) (y ∷ m) d e n f = omega (arith, ap one_if (f 0 (omega arith)), count_both p q l m d e (omega arith) (λ i h. f (suc i) (omega arith)))

pub map_both : {A A' C : Type 0} (f : A → C) (h : A' → C) (l : List A) (m : List A') (d : A) (e : A') → length l ≡ length m
    → ((i : ℕ) → i < length l → f (get_or l i d) ≡ h (get_or m i e)) → map f l ≡ map h m
map_both f h [] [] d e n g = refl
map_both f h [] (y ∷ m) d e n g = absurd (omega arith)
map_both f h (x ∷ l) [] d e n g = absurd (omega arith)
map_both f h (x ∷ l) (y ∷ m) d e n g = ap₂ (λ a t. a ∷ t) (g 0 (omega arith)) (map_both f h l m d e (omega arith) (λ i b. g (suc i) (omega arith)))

-- A standing and a board of their parts.
pub standing_eq : (r r' n n' x x' : ℕ) → r ≡ r' → n ≡ n' → x ≡ x'
    → ◌≡◌ {A = Standing} (record { region = r; mark = n; returns = x }) (record { region = r'; mark = n'; returns = x' })
standing_eq r r' n n' x x' a b c =
    ap₂ (λ (i j : ℕ). record { region = i; mark = j; returns = x }) a b ∙ ap (λ (k : ℕ). record { region = r'; mark = n'; returns = k }) c

pub board_eq : (n n' k k' : ℕ) (x x' : List Standing) → n ≡ n' → k ≡ k' → x ≡ x'
    → ◌≡◌ {A = Board} (record { n = n; k = k; plugins = x }) (record { n = n'; k = k'; plugins = x' })
board_eq n n' k k' x x' a b c =
    ap₂ (λ (i j : ℕ). record { n = i; k = j; plugins = x }) a b ∙ ap (λ (y : List Standing). record { n = n'; k = k'; plugins = y }) c

-- A board shows 0 for an idle plugin, else the returns.
pub shown_same : (b b' : Bool) (x x' : ℕ) → b ≡ b' → (not b ≡ true → x ≡ x') → cond b 0 x ≡ cond b' 0 x'
shown_same true true x x' e f = refl
shown_same true false x x' e f = absurd (true≢false e)
shown_same false true x x' e f = absurd (true≢false (sym e))
shown_same false false x x' e f = f refl

shown_back : (b b' : Bool) (x x' : ℕ) → cond b 0 x ≡ cond b' 0 x' → b ≡ b' → not b ≡ true → x ≡ x'
shown_back true b' x x' e f h = absurd (true≢false (sym h))
shown_back false true x x' e f h = absurd (true≢false (sym f))
shown_back false false x x' e f h = e

-- Boards that are equal, place by place.
module _ (B : Block) (g : Gate) (l : List Record) (C : Block) (h : Gate) (m : List Record) (e : board_in B g l ≡ board_in C h m) where
  abbrev at : ℕ → Record
  at i = get_or l i idle_record

  abbrev at' : ℕ → Record
  at' i = get_or m i idle_record

  -- Of a plugin that a list does not have.
  abbrev none : Standing
  none = record { region = 0; mark = 0; returns = 0 }

  pub board_n : g.n ≡ h.n
  board_n = ap (λ (x : Board). x.n) e

  pub board_k : g.k ≡ h.k
  board_k = ap (λ (x : Board). x.k) e

  pub board_at : (i : ℕ) → standing_in B g (at i) ≡ standing_in C h (at' i)
  board_at i =
      sym (get_or-map (standing_in B g) l i idle_record) ∙ ap (λ (x : Board). get_or x.plugins i none) e ∙ get_or-map (standing_in C h) m i idle_record

  pub board_region : (i : ℕ) → (at i).region ≡ (at' i).region
  board_region i = ap (λ (x : Standing). x.region) (board_at i)

  pub board_mark : (i : ℕ) → (at i).mark ≡ (at' i).mark
  board_mark i = ap (λ (x : Standing). x.mark) (board_at i)

  pub board_held : (i : ℕ) → held (at i) ≡ held (at' i)
  board_held i = ap (λ (x : ℕ). not (eqb x 0)) (board_region i)

  pub board_returns : (i : ℕ) → held (at i) ≡ true → returns_in B g (ticket_of (at i)) ≡ returns_in C h (ticket_of (at' i))
  board_returns i hd =
      shown_back (idle (at i)) (idle (at' i)) _ _ (ap (λ (x : Standing). x.returns) (board_at i)) (ap (λ (x : ℕ). eqb x 0) (board_region i)) hd

-- Two sound gates.
module _ {B : Block} {C : Block} (g : Gate) (l : List Record) (h : Gate) (m : List Record) (s : IsSoundIn B g l) (t : IsSoundIn C h m)
    (len : length l ≡ g.n) (len' : length m ≡ h.n) where
  abbrev one : ℕ → Record
  one i = get_or l i idle_record

  abbrev other : ℕ → Record
  other i = get_or m i idle_record

  -- Alike to boards.
  module _ (a : IsAlike B g l C h m) where
    held_same : (i : ℕ) → i < g.n → held (one i) ≡ held (other i)
    held_same i b = ap (λ (x : ℕ). not (eqb x 0)) (a.plugin_same i b).region_same

    pub invalid_same : (i : ℕ) → i < g.n → holds_invalid g (one i) ≡ holds_invalid h (other i)
    invalid_same i b =
        by_bool (held (one i))
        (λ e. ap₂ (λ (x y : Bool). x && not y) (held_same i b) ((a.plugin_same i b).valid_same e))
        (λ e. ap (λ (x : Bool). x && not (is_valid g (ticket_of (one i)))) e ∙ sym (ap (λ (x : Bool). x && not (is_valid h (ticket_of (other i)))) (sym (held_same i b) ∙ e)))

    distance_same : (i : ℕ) → i < g.n → holds_invalid g (one i) ≡ true → distance_in B g (ticket_of (one i)) ≡ distance_in C h (ticket_of (other i))
    distance_same i b e =
        sym (rank_is g l s i (omega (arith, len)) e)
        ∙ ap suc (count_both (λ x. holds_invalid g x && before_in B g x (one i)) (λ x. holds_invalid h x && before_in C h x (other i)) l m idle_record idle_record (len ∙ a.n_same ∙ sym len')
        (λ j c.
        let c' : j < g.n = omega (arith, len) in
        by_bool (holds_invalid g (one j))
        (λ f. ap₂ (λ (x y : Bool). x && y) (invalid_same j c') (a.order_same j i c' b f e))
        (λ f. ap (λ (x : Bool). x && before_in B g (one j) (one i)) f ∙ sym (ap (λ (x : Bool). x && before_in C h (other j) (other i)) (sym (invalid_same j c') ∙ f)))))
        ∙ rank_is h m t i (omega (arith, len', a.n_same)) (sym (invalid_same i b) ∙ e)

    returns_same : (i : ℕ) → i < g.n → held (one i) ≡ true → returns_in B g (ticket_of (one i)) ≡ returns_in C h (ticket_of (other i))
    returns_same i b hd =
        by_bool (is_valid g (ticket_of (one i)))
        (λ e. returns_valid B g (ticket_of (one i)) e ∙ sym (returns_valid C h (ticket_of (other i)) (sym ((a.plugin_same i b).valid_same hd) ∙ e)))
        (λ e.
        returns_later B g (ticket_of (one i)) e ∙ distance_same i b (invalid_i g (one i) hd e)
        ∙ sym (returns_later C h (ticket_of (other i)) (sym ((a.plugin_same i b).valid_same hd) ∙ e)))

    standing_same : (i : ℕ) → i < g.n → standing_in B g (one i) ≡ standing_in C h (other i)
    standing_same i b =
        let x = a.plugin_same i b in
        standing_eq _ _ _ _ _ _ x.region_same x.mark_same
        (shown_same (idle (one i)) (idle (other i)) _ _ (ap (λ (y : ℕ). eqb y 0) x.region_same) (returns_same i b))

    pub alike_board : board_in B g l ≡ board_in C h m
    alike_board =
        board_eq _ _ _ _ _ _ a.n_same a.k_same
        (map_both (standing_in B g) (standing_in C h) l m idle_record idle_record (len ∙ a.n_same ∙ sym len') (λ i b. standing_same i (omega (arith, len))))

  -- Boards to alike.
  module _ (e : board_in B g l ≡ board_in C h m) where
    abbrev n_same : g.n ≡ h.n
    n_same = board_n B g l C h m e

    pub board_valid : (i : ℕ) → i < g.n → held (one i) ≡ true → is_valid g (ticket_of (one i)) ≡ is_valid h (ticket_of (other i))
    board_valid i b hd =
        let r = board_returns B g l C h m e i hd in
        by_bool (is_valid g (ticket_of (one i)))
        (λ v.
        v ∙ sym (returns_zero h m t i (omega (arith, len', n_same)) (sym (board_held B g l C h m e i) ∙ hd) (sym r ∙ returns_valid B g (ticket_of (one i)) v)))
        (λ v.
        v ∙ sym (not_i (is_valid h (ticket_of (other i))) (λ w.
        clash _ (returns_zero g l s i (omega (arith, len)) hd (r ∙ returns_valid C h (ticket_of (other i)) w)) v)))

    board_distance : (i : ℕ) → i < g.n → holds_invalid g (one i) ≡ true → distance_in B g (ticket_of (one i)) ≡ distance_in C h (ticket_of (other i))
    board_distance i b f =
        let y = invalid_use g (one i) f in
        sym (returns_later B g (ticket_of (one i)) y.1) ∙ board_returns B g l C h m e i y.0
        ∙ returns_later C h (ticket_of (other i)) (sym (board_valid i b y.0) ∙ y.1)

    pub board_alike : IsAlike B g l C h m
    board_alike = record {
      n_same = n_same;
      k_same = board_k B g l C h m e;
      plugin_same = λ i b. record { region_same = board_region B g l C h m e i; mark_same = board_mark B g l C h m e i; valid_same = board_valid i b };
      order_same = λ i j a b c d. ap₂ (λ (x y : ℕ). ltb x y) (board_distance i a c) (board_distance j b d);
    }

-- Both ways.
pub sound_of : {b : Block} {g : Gate} {l : List Record} → SoundGate b g l → IsSoundIn b g l
sound_of {b} {g} {l} s = sound_in_use b g l s.fits s.is_sound

pub alike_is_board : AlikeIsBoard
alike_is_board b g l c h m s t = (
  λ a. alike_board g l h m (sound_of s) (sound_of t) s.list_len t.list_len (alike_use b g l c h m a),
  λ e. alike_i b g l c h m (board_alike g l h m (sound_of s) (sound_of t) s.list_len t.list_len e),
)

-- In one pass over the plugins.
standing_use : (b : Block) (g : Gate) (r : Record) (c : Block) (h : Gate) (s : Record) → same_standing b g r c h s ≡ true → standing_in b g r ≡ standing_in c h s
unfolding same_standing
standing_use b g r c h s e =
    let x = and_l (eqb r.region s.region && eqb r.mark s.mark) _ e in
    standing_eq _ _ _ _ _ _ (eqb-true _ _ (and_l _ _ x)) (eqb-true _ _ (and_r (eqb r.region s.region) _ x))
    (eqb-true _ _ (and_r (eqb r.region s.region && eqb r.mark s.mark) _ e))

standing_i : (b : Block) (g : Gate) (r : Record) (c : Block) (h : Gate) (s : Record) → standing_in b g r ≡ standing_in c h s → same_standing b g r c h s ≡ true
unfolding same_standing
standing_i b g r c h s e =
    and_i (eqb r.region s.region && eqb r.mark s.mark) _
    (and_i (eqb r.region s.region) _ (eq-eqb _ _ (ap (λ (x : Standing). x.region) e)) (eq-eqb _ _ (ap (λ (x : Standing). x.mark) e)))
    (eq-eqb _ _ (ap (λ (x : Standing). x.returns) e))

board_use : (b : Block) (g : Gate) (l : List Record) (c : Block) (h : Gate) (m : List Record) → length l ≡ g.n → length m ≡ h.n
    → same_board b g l c h m ≡ true → board_in b g l ≡ board_in c h m
unfolding same_board
board_use b g l c h m a a' e =
    let x = and_l (eqb g.n h.n && eqb g.k h.k) _ e in
    let n : g.n ≡ h.n = eqb-true _ _ (and_l _ _ x) in
    board_eq _ _ _ _ _ _ n (eqb-true _ _ (and_r (eqb g.n h.n) _ x))
    (map_both (standing_in b g) (standing_in c h) l m idle_record idle_record (a ∙ n ∙ sym a') (λ i y.
    standing_use b g (get_or l i idle_record) c h (get_or m i idle_record)
    (below_at (λ j. same_standing b g (get_or l j idle_record) c h (get_or m j idle_record)) g.n (and_r (eqb g.n h.n && eqb g.k h.k) _ e) i (omega (arith, a)))))

board_i : (b : Block) (g : Gate) (l : List Record) (c : Block) (h : Gate) (m : List Record) → board_in b g l ≡ board_in c h m → same_board b g l c h m ≡ true
unfolding same_board
board_i b g l c h m e =
    and_i (eqb g.n h.n && eqb g.k h.k) _
    (and_i (eqb g.n h.n) _ (eq-eqb _ _ (board_n b g l c h m e)) (eq-eqb _ _ (board_k b g l c h m e)))
    (below_i (λ i. same_standing b g (get_or l i idle_record) c h (get_or m i idle_record)) g.n (λ i y.
    standing_i b g (get_or l i idle_record) c h (get_or m i idle_record) (board_at b g l c h m e i)))

pub alike_in_one_pass : AlikeInOnePass
alike_in_one_pass b g l c h m s t =
    bool_ext _ _
    (λ a. board_i b g l c h m ((alike_is_board b g l c h m s t).0 a))
    (λ e. (alike_is_board b g l c h m s t).1 (board_use b g l c h m s.list_len t.list_len e))
