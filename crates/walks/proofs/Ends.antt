-- How a walk ends: from a walk over the tables of a function's own environment to the triple of its routine.
--
-- Main definition: `here`, those tables. Main statement: `meets_at`. Assumes nothing.
use seplogic.Ra.Ura.{Ura}
use mir.Syntax.{Callee, Fn}
use prog.Model.{Model}
use prog.Routine.{Env}
use prog.Wp.{WpFn, Closed, Tables}
use types.Logic.{Logic}
use contract.Running.{Running, tables, tables_of}
use sound.WpLaws.{WpFn-mono}
use denote.Triple.Spec.{Meets, triple_of}
use denote.Triple.Clauses.{Ended, Clauses, closing}
use denote.Triple.Table.{entered}
use denote.Triple.Walked.{Stays, AllGo, Walks, walk_Meets}

module _ {M : Type 1} {𝓤 : Ura M} (𝓛 : Logic 𝓤) (𝓜 : Model 𝓤 𝓛.H) (𝓡 : Running 𝓤 𝓛.H 𝓜) (env : Env) (key : Callee) (f : Fn) where
  open 𝓛 use {H}

  abbrev pub here : Tables 𝓤 H
  here = tables_of 𝓤 H 𝓜 (tables 𝓤 H 𝓜 𝓡 env)

  pub meets_at : Closed 𝓤 H (tables 𝓤 H 𝓜 𝓡 env).C (tables 𝓤 H 𝓜 𝓡 env).Λ key f
      → (T : Ended) (hs : Stays T.signature.params T.kept) → AllGo 𝓛 T.signature.lifetimes T.signature.params T.kept hs → (c : Clauses 𝓤 T)
      → Walks 𝓛 T hs (WpFn 𝓤 H here.C here.Λ f) c → Meets 𝓛 T.signature (𝓡.run (env key)) (closing 𝓛 T c)
  unfolding tables_of
  meets_at closed T hs go c walks =
      entered 𝓤 H (triple_of 𝓛 T.signature (closing 𝓛 T c)) (tables 𝓤 H 𝓜 𝓡 env).C (tables 𝓤 H 𝓜 𝓡 env).Λ key f closed
      (walk_Meets 𝓛 T hs go c (WpFn 𝓤 H here.C here.Λ f) (WpFn-mono 𝓤 H 𝓛.laws here f) walks)
