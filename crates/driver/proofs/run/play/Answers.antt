-- `play` prints what `played` says of the schedule: a law for the end, for a bad line, and for a line that it goes on after. Assumes nothing.
use Rattle.std.proofs.Common.{◌≡◌, Ok, ap, arith, ◌∙◌}
use Rattle.told.proofs.NoGate.{default_words}
use Rattle.driver.specs.Store.{host_of}
use Rattle.driver.proofs.PlayLaws.{begins, ends, goes_on, rest_less, stops}
use Rattle.driver.proofs.run.play.Goals as goal

pub loop-line-init : goal.loop-line-init
loop-line-init g c =
    let host = c.default-host in
    begins c.args.schedule.now g.row.N (host_of host.result) c.args.out.now.items (λ j. record { gate = default_words host.result.gate host.ensures.0 j; list = host.ensures.1 j })
    c.requires.empty c.requires.room

pub returns-in-Ok-None : goal.returns-in-Ok-None
returns-in-Ok-None g c =
    let l = c.loop-line in
    let answer = c.next_call-next.result.answer in
    let found : answer ≡ Ok c.in-Ok-None.field-0 = c.in-Ok-None.is in
    ends c.args.schedule.now g.row.N (host_of l.host) l.out.items l.part.now l.invariant
    answer c.next_call-next.ensures.answer.answer_is (found ∙ ap Ok (rw found at c.in-Ok-None.field-0-is))

pub returns-in-Err : goal.returns-in-Err
returns-in-Err g c =
    let l = c.loop-line in
    let next = c.next_call-next in
    stops c.args.schedule.now g.row.N (host_of l.host) l.out.items l.part.now l.invariant
    next.result.answer next.ensures.answer.answer_is c.in-Err.field-0 _ c.in-Err.is (c.put_word.ensures.written (omega (arith, l.invariant.room)))

pub loop-line-smaller : goal.loop-line-smaller
loop-line-smaller g c =
    let l = c.loop-line in
    let next = c.next_call-next in
    let turn = c.perform_line in
    let found : next.result.answer ≡ Ok c.in-Ok-Some.field-0 = c.in-Ok-Some.is in
    rest_less c.args.schedule.now g.row.N (host_of l.host) l.out.items l.part.now l.invariant
    next.result.answer next.ensures.answer.answer_is c.in-Ok-Some.line (found ∙ ap Ok (rw found at c.in-Ok-Some.field-0-is)) _ _ turn.ensures _ next.ensures.rest

pub loop-line-preserved : goal.loop-line-preserved
loop-line-preserved g c =
    let l = c.loop-line in
    let next = c.next_call-next in
    let turn = c.perform_line in
    let found : next.result.answer ≡ Ok c.in-Ok-Some.field-0 = c.in-Ok-Some.is in
    goes_on c.args.schedule.now g.row.N (host_of l.host) l.out.items l.part.now l.invariant
    next.result.answer next.ensures.answer.answer_is c.in-Ok-Some.line (found ∙ ap Ok (rw found at c.in-Ok-Some.field-0-is)) _ _ turn.ensures _ next.ensures.rest
