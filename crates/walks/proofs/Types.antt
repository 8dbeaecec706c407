-- The types of the gate as plain data, which a walk passes by value.
--
-- Main definitions: `gate_plain`, `record_plain`, `call_plain`, `line_plain`; and of what calls return `answer_plain`, `reply_plain`,
-- `comparison_plain`, each of a `Result` whose error is a refusal. Assumes nothing.
use mathlib.Core.Path.{◌≡◌, refl}
use base.Fml.{ftrue}
use denote.RattleType.{RattleType}
use denote.Builtin.{bool, u16}
use denote.Exit.{Last, left, yes}
use denote.Struct.Field.{bool-field, u16-field}
use denote.Struct.Laws as LL
use denote.Enum.Declared.{Declared}
use denote.Enum.Laws as EL
use denote.Param.{layout}
use denote.Param.Laws.{Laws, Told, field_told, of_field}
use denote.Param.Plain.{IsPlain}
use denote.Param.Shared.{copy_shared}
use Rattle.std.specs.contracts.result.Result as Res
use Rattle.std.proofs.result.Result.TheLaws as Res'
use Rattle.walks.proofs.Plain.{Plain}
use Rattle.model.specs.contracts.Gate as G
use Rattle.model.proofs.Gate.TheLaws as G'
use Rattle.model.specs.contracts.Record as R
use Rattle.model.proofs.Record.TheLaws as R'
use Rattle.model.specs.contracts.Call as Ca
use Rattle.model.proofs.Call.TheLaws as Ca'
use Rattle.model.specs.contracts.Line as L
use Rattle.model.proofs.Line.TheLaws as L'
use Rattle.model.specs.contracts.Ticket as Ti
use Rattle.model.proofs.Ticket.TheLaws as Ti'
use Rattle.model.specs.contracts.Verdict as V
use Rattle.model.proofs.Verdict.TheLaws as V'
use Rattle.model.specs.contracts.Answer as A
use Rattle.model.proofs.Answer.TheLaws as A'
use Rattle.model.specs.contracts.Reply as P
use Rattle.model.proofs.Reply.TheLaws as P'
use Rattle.model.specs.contracts.Refusal as Ref
use Rattle.model.proofs.Refusal.TheLaws as Ref'

abbrev pub gate_plain : Plain
gate_plain = record { row = G.the_row; ty = G'.mir; val = LL.val G.the_type G'.the_laws; tells = LL.tells G.the_type G'.the_laws; typed = λ 𝓛 x u is. ((LL.lawful G.the_type G'.the_laws 𝓛).typed x _ is).0; makes = λ 𝓛. LL.makes G.the_type G'.the_plain 𝓛; last = λ x. tt; silent = λ x w. refl }

abbrev pub record_plain : Plain
record_plain = record { row = R.the_row; ty = R'.mir; val = LL.val R.the_type R'.the_laws; tells = LL.tells R.the_type R'.the_laws; typed = λ 𝓛 x u is. ((LL.lawful R.the_type R'.the_laws 𝓛).typed x _ is).0; makes = λ 𝓛. LL.makes R.the_type R'.the_plain 𝓛; last = λ x. tt; silent = λ x w. refl }

abbrev pub call_plain : Plain
call_plain = record { row = Ca.the_row; ty = Ca'.mir; val = EL.val Ca.the_type Ca'.the_laws; tells = EL.tells Ca.the_type Ca'.the_laws; typed = λ 𝓛 x u is. ((EL.lawful Ca.the_type Ca'.the_laws 𝓛 tt).typed x _ is).0; makes = λ 𝓛. EL.makes Ca.the_type Ca'.the_plain 𝓛; last = λ x. tt; silent = λ x w. refl }

abbrev pub line_plain : Plain
line_plain = record { row = L.the_row; ty = L'.mir; val = EL.val L.the_type L'.the_laws; tells = EL.tells L.the_type L'.the_laws; typed = λ 𝓛 x u is. ((EL.lawful L.the_type L'.the_laws 𝓛 tt).typed x _ is).0; makes = λ 𝓛. EL.makes L.the_type L'.the_plain 𝓛; last = λ x. tt; silent = λ x w. refl }

-- What a call returns is a `Result` whose error is the refusal: here of any type T that has one MIR type, tells its machine value and owns only facts.
module _ (T : RattleType) (l : Laws T) (t : Told T) (p : IsPlain T) where
  abbrev Answered : Declared
  Answered = Res.the_type T Ref.the_row

  abbrev row : RattleType
  row = Res.the_row T Ref.the_row

  abbrev laws : EL.Laws Answered
  laws = Res'.the_laws T Ref.the_row l Ref'.the_row_laws t Ref'.the_told

  abbrev result_plain : ((x : row.Denot) → Last (row.exit yes) x) → ((x : row.Denot) (w : Last (row.exit yes) x) → left (row.exit yes) x w ≡ ftrue) → Plain
  result_plain last silent = record { row = row; ty = layout row; val = EL.val Answered laws; tells = EL.tells Answered laws; typed = λ 𝓛 x u is. ((EL.lawful Answered laws 𝓛 tt).typed x _ is).0; makes = λ 𝓛. EL.makes Answered (Res'.the_plain T Ref.the_row p Ref'.the_row_plain) 𝓛; last = last; silent = silent }

abbrev u16_laws : Laws u16
u16_laws = of_field u16-field LL.u16-laws refl (copy_shared u16-field LL.u16-copy)

abbrev bool_laws : Laws bool
bool_laws = of_field bool-field LL.bool-laws refl (copy_shared bool-field LL.bool-copy)

-- `SlotAnswer`
abbrev Answer : RattleType
Answer = A.the_row Ti.the_row V.the_row u16

abbrev answer_laws : Laws Answer
answer_laws = A'.the_row_laws Ti.the_row V.the_row u16 Ti'.the_row_laws V'.the_row_laws u16_laws

abbrev answer_told : Told Answer
answer_told = A'.the_told Ti.the_row V.the_row u16 Ti'.the_row_laws V'.the_row_laws u16_laws Ti'.the_told V'.the_told (field_told u16-field LL.u16-laws)

abbrev answer_facts : IsPlain Answer
answer_facts = A'.the_row_plain Ti.the_row V.the_row u16 Ti'.the_row_plain V'.the_row_plain LL.u16-plain

-- `Result<SlotAnswer, Refusal>`
abbrev pub answer_plain : Plain
answer_plain = result_plain Answer answer_laws answer_told answer_facts (λ x. tt) (λ x w. refl)

-- `Result<SlotReply, Refusal>`
abbrev pub reply_plain : Plain
reply_plain = result_plain (P.the_row G.the_row Answer) (P'.the_row_laws G.the_row Answer G'.the_row_laws answer_laws) (P'.the_told G.the_row Answer G'.the_row_laws answer_laws G'.the_told answer_told) (P'.the_row_plain G.the_row Answer G'.the_row_plain answer_facts) (λ x. tt) (λ x w. refl)

-- `Result<bool, Refusal>`
abbrev pub comparison_plain : Plain
comparison_plain = result_plain bool bool_laws (field_told bool-field LL.bool-laws) LL.bool-plain (λ x. tt) (λ x w. refl)
