-- Clauses of a contract that stand side by side.
--
-- Main statements: `shows` (what is had for nothing stands beside the goal), `fact_one`, `fact_and` (facts had for nothing), `fact_both`, `fact_more`
-- (clauses read as one product).
use mathlib.Core.List.{List}
use seplogic.Ra.Ura.{Ura}
use base.Logic.{SProp, ent, sep, emp, via, comm∗, mono_l, mono_r, emp∗}
use types.Logic.{Logic}
use contract.Monad.{fact, fact_i, fact_mono}
use types.Kit.{Item, prop, Step, step}
use denote.Triple.Walked.{needs}

pub shows : {M : Type 1} {𝓤 : Ura M} {𝓛 : Logic 𝓤} {K : Type 0} {Γ : List (Item 𝓤)} → K → {P Q : SProp 𝓤} → ent 𝓤 (emp 𝓤) Q → Step K 𝓛 Γ (prop P) Γ (prop (sep 𝓤 P Q))
shows {𝓤 = 𝓤} t {P} {Q} q = step (λ s. record { prf = via 𝓤 P s.prf (via 𝓤 (sep 𝓤 (emp 𝓤) P) (emp∗ 𝓤 P) (via 𝓤 (sep 𝓤 Q P) (mono_l 𝓤 P q) (comm∗ 𝓤 Q P))) })

module _ {M : Type 1} (𝓤 : Ura M) where
  pub fact_one : {φ : Type 0} → φ → ent 𝓤 (emp 𝓤) (fact 𝓤 φ)
  fact_one {φ} x = fact_i 𝓤 φ (emp 𝓤) x

  pub fact_and : {φ : Type 0} {Q : SProp 𝓤} → φ → ent 𝓤 (emp 𝓤) Q → ent 𝓤 (emp 𝓤) (sep 𝓤 (fact 𝓤 φ) Q)
  fact_and {φ} {Q} x h = via 𝓤 Q h (via 𝓤 (sep 𝓤 (emp 𝓤) Q) (emp∗ 𝓤 Q) (mono_l 𝓤 Q (fact_i 𝓤 φ (emp 𝓤) x)))

  pub fact_both : {φ ψ : Type 0} → ent 𝓤 (sep 𝓤 (fact 𝓤 φ) (fact 𝓤 ψ)) (fact 𝓤 (φ × ψ))
  fact_both {φ} {ψ} = needs 𝓤 ψ (fact 𝓤 φ) (λ y. fact_mono 𝓤 φ (φ × ψ) (λ x. (x, y)))

  pub fact_more : {φ ψ : Type 0} {R : SProp 𝓤} → ent 𝓤 R (fact 𝓤 ψ) → ent 𝓤 (sep 𝓤 (fact 𝓤 φ) R) (fact 𝓤 (φ × ψ))
  fact_more {φ} {ψ} {R} h = via 𝓤 (sep 𝓤 (fact 𝓤 φ) (fact 𝓤 ψ)) (mono_r 𝓤 (fact 𝓤 φ) h) fact_both
