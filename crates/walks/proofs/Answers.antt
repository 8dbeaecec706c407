-- What a caller has of a callee after a call, at the callee's contract alone.
--
-- Main statements: `answers-last` (a result, the last values of what was lent by `&mut`, a fact φ of both that the callee's clauses give, and the
-- tokens), `answers` (the same where no last value matters). Assumes `Logic`.
use mathlib.Core.List.{[], ◌∷◌}
use seplogic.Ra.Ura.{Ura}
use mir.Val.{Val}
use base.Logic.{SProp, ent, sep, guard, id⊢}
use types.Logic.{Logic, sem}
use contract.Monad.{fact}
use types.Kit.{‵, raw, some, given, later, ◌⊛◌, mean, ◌$◌, ◌∵◌, !, qed, move, drop, use1, split, pick, learn, await, updating, now as at_once, show, check, done}
use denote.RattleType.{RattleType}
use denote.Laws.{Is, shows}
use denote.Signature.{type_at}
use denote.Steps.{facts, heard}
use denote.Triple.Entry.{alive}
use denote.Triple.Spec.{triple_of}
use denote.Triple.Statement.{Contract}
use denote.Triple.Clauses.{Ended, Clauses, Lasts, ensured, lasts, at_exit, closing}

module _ {M : Type 1} {𝓤 : Ura M} (𝓛 : Logic 𝓤) (T : Ended) (c : Clauses 𝓤 T) where
  abbrev Callee : Contract 𝓤
  Callee = triple_of 𝓛 T.signature (closing 𝓛 T c)

  module _ (y : Callee.Ghost) where
    -- the result's type, the last values of the parameters, the lifetimes' tokens, and the clauses at exit
    abbrev Result : RattleType
    Result = type_at T.signature.result y.0.0

    abbrev Last : Type 0
    Last = Lasts T y.0.0 y.0.3

    abbrev Tokens : SProp 𝓤
    Tokens = alive 𝓛 T.signature y.0.0 y.0.1

    abbrev Ensures : Result.Denot → Last → SProp 𝓤
    Ensures r ws = (c y.0.0 y.0.3).ensures y.1 r (at_exit T y.0.0 y.0.3 ws)

    pub answers-last : (φ : Result.Denot → Last → Type 0) → ((r : Result.Denot) (ws : Last) → ent 𝓤 (Ensures r ws) (fact 𝓤 (φ r ws)))
        → (u : Val) → ent 𝓤 (Callee.post y u) (mean 𝓛 (later (some (λ (z : Result.Denot × Last). given (φ z.0 z.1 × Is Result z.0 (u ∷ [])) (raw Tokens ⊛ ‵ (lasts T y.0.0 y.0.3 z.1))))))
    answers-last φ reads u =
        qed 𝓛 (raw (Callee.post y u) ∷ []) ∵ updating ! $
        use1 𝓛 (later (some (λ (r : Result.Denot). (raw Tokens ⊛ ‵ (Result.own_val r (u ∷ []))) ⊛ raw (ensured 𝓛 T c y.0.0 y.0.3 y.1 r)))) (id⊢ 𝓤 _) $ await ! tt $ pick ! (λ r. split ! $ move ! (1 ∷ []) $
        -- the clauses, at some last values
        use1 𝓛 (some (λ (ws : Last). ‵ (lasts T y.0.0 y.0.3 ws) ⊛ raw (Ensures r ws))) (id⊢ 𝓤 _) $ pick ! (λ ws. split ! $ move ! (1 ∷ []) $ use1 𝓛 (raw (fact 𝓤 (φ r ws))) (reads r ws) $ heard ! (φ r ws) (λ e.
        -- what the result owns says what it is
        move ! (1 ∷ []) $ split ! $ move ! (1 ∷ []) $ facts ! Result (Is Result) (shows 𝓛 Result) r (u ∷ []) (λ is.
        at_once ! $ show ! (λ (z : Result.Denot × Last). guard 𝓤 (φ z.0 z.1 × Is Result z.0 (u ∷ [])) (sep 𝓤 Tokens (sem 𝓛 (lasts T y.0.0 y.0.3 z.1)))) (r, ws) $ check ! (e, is) $ done !))))

    pub answers : (φ : Result.Denot → Type 0) → ((r : Result.Denot) (ws : Last) → ent 𝓤 (Ensures r ws) (fact 𝓤 (φ r)))
        → (u : Val) → ent 𝓤 (Callee.post y u) (mean 𝓛 (later (some (λ (r : Result.Denot). given (φ r × Is Result r (u ∷ [])) (raw Tokens)))))
    answers φ reads u =
        qed 𝓛 (raw (Callee.post y u) ∷ []) ∵ updating ! $
        use1 𝓛 (later (some (λ (z : Result.Denot × Last). given (φ z.0 × Is Result z.0 (u ∷ [])) (raw Tokens ⊛ ‵ (lasts T y.0.0 y.0.3 z.1))))) (answers-last (λ r ws. φ r) reads u) $ await ! tt $ pick ! (λ z. learn ! (λ e.
        split ! $ move ! (1 ∷ []) $ drop ! $ at_once ! $ show ! (λ (r : Result.Denot). guard 𝓤 (φ r × Is Result r (u ∷ [])) Tokens) z.0 $ check ! e $ done !))
