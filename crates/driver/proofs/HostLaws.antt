-- What an open of 1989 makes of a host that lends its own list. Assumes nothing.
use Rattle.std.proofs.Common.{◌≡◌, ◌∙◌, ℕ, List, ◌++◌, Ok, Err, ap, refl, sym, drop, length, replicate, take}
use mathlib.Core.Bool.{false, true, true≢false, ◌&&◌}
use lib.ListN.{length-replicate}
use lib.Seq.{take-append_seam}
use lib.Dec.{leb}
use borrow.Author.Tests.{eq-eqb}
use Rattle.std.specs.Result.{is_ok}
use Rattle.model.specs.declared.Answer.{Answer}
use Rattle.model.specs.declared.Answer.TheVariants.{Done}
use Rattle.model.specs.declared.Gate.{Gate}
use Rattle.model.specs.declared.Record.{Record}
use Rattle.model.specs.declared.Refusal.{Refusal}
use Rattle.model.specs.declared.Refusal.TheVariants.{OutOfRange}
use Rattle.model.specs.declared.Ticket.{Ticket}
use Rattle.model.specs.declared.Verdict.{Verdict}
use Rattle.model.specs.Calls.{Outcome, idle_record}
use Rattle.model.specs.Opening.{no_gate, open_accepts, open_gate, open_in_range, opened}
use Rattle.model.proofs.Logic.{and_l, and_r, by_bool}
use Rattle.model.proofs.Opens.{gate_opened}
use Rattle.driver.specs.Playing.{Host, after_open, list_size}
use Rattle.driver.specs.Store.{Did, in_range}

module _ (n k : ℕ) where
  is_in_range : open_in_range 1989 n k ≡ in_range n k
  unfolding open_in_range
  is_in_range =
      by_bool (leb 1 n)
      (λ a. by_bool (leb n 1024)
      (λ b. by_bool (leb 1 k)
      (λ c. by_bool (leb k 64) (λ d. rw (a, b, c, d) refl) (λ d. rw (a, b, c, d) refl))
      (λ c. rw (a, b, c) refl))
      (λ b. rw (a, b) refl))
      (λ a. rw a refl)

  accepted : in_range n k ≡ true → open_accepts 1989 n k ≡ true
  unfolding open_accepts
  accepted e = rw (is_in_range ∙ e) refl

  -- It is accepted where N and k are in range and the list has N records, whatever these are.
  opened_within : (l : List Record) → in_range n k ≡ true → length l ≡ n → open_gate 1989 n k l ≡ opened 1989 n k
  opened_within l e h = gate_opened 1989 n k l (accepted e) (eq-eqb (length l) n h)

  -- Else it leaves the list.
  refused_beyond : (l : List Record) → in_range n k ≡ false → open_gate 1989 n k l ≡ record { gate = no_gate; list = l; answer = Err OutOfRange }
  unfolding open_gate
  refused_beyond l e = rw (is_in_range ∙ e) refl

  size_within : in_range n k ≡ true → list_size n ≡ n
  size_within e = rw (and_r (leb 1 n) _ (and_l (leb 1 n && leb n 1024) _ (and_l (leb 1 n && leb n 1024 && leb 1 k) _ e))) refl

  -- What the host has after either.
  after_opened : (h : Host) → in_range n k ≡ true → after_open n k h ≡ record { host = record { gate = (opened 1989 n k).gate; list = (opened 1989 n k).list }; answer = Ok Done }
  unfolding after_open
  after_opened h e = rw (opened_within (replicate (list_size n) idle_record) e (length-replicate (list_size n) idle_record ∙ size_within e)) refl

  after_refused : (h : Host) → in_range n k ≡ false → after_open n k h ≡ record { host = h; answer = Err OutOfRange }
  unfolding after_open
  after_refused h e = rw (refused_beyond (replicate (list_size n) idle_record) e) refl

  -- So an open on the list that the host lends, its own, does what `after_open` says; what the slice has after it is the list.
  module _ (h : Host) (l : List Record) (within : in_range n k ≡ true → length l ≡ n) (beyond : in_range n k ≡ false → l ≡ h.list) {new : List Record}
      (new-is : new ≡ (open_gate 1989 n k l).list) where
    abbrev written : List Record
    written = take (length l) (new ++ drop (length new) l)

    is_written : length new ≡ length l → written ≡ new
    is_written e = ap (λ (x : ℕ). take x (new ++ drop (length new) l)) (sym e) ∙ take-append_seam new (drop (length new) l)

    pub did_refuse : {r : Refusal} → Err r ≡ (open_gate 1989 n k l).answer → Did (after_open n k h) (record { gate = h.gate; list = written }) (Err r)
    did_refuse {r} p =
        by_bool (in_range n k)
        (λ e. absurd (true≢false (sym (ap is_ok (p ∙ ap (λ (o : Outcome). o.answer) (opened_within l e (within e)))))))
        (λ e.
        let w = refused_beyond l e in
        let same : new ≡ l = new-is ∙ ap (λ (o : Outcome). o.list) w in
        rw (after_refused h e)
        (record {
          host_is = ap (λ (x : List Record). record { gate = h.gate; list = x }) (is_written (ap length same) ∙ same ∙ beyond e);
          answer_is = p ∙ ap (λ (o : Outcome). o.answer) w;
        }))

    pub did_open : {a : Answer Ticket Verdict ℕ} {g : Gate} → Ok a ≡ (open_gate 1989 n k l).answer → g ≡ (open_gate 1989 n k l).gate
        → Did (after_open n k h) (record { gate = g; list = written }) (Ok a)
    did_open {a} {g} p q =
        by_bool (in_range n k)
        (λ e.
        let w = opened_within l e (within e) in
        let all-idle : new ≡ replicate n idle_record = new-is ∙ ap (λ (o : Outcome). o.list) w in
        rw (after_opened h e)
        (record {
          host_is =
              ap (λ (x : List Record). record { gate = g; list = x }) (is_written (ap length all-idle ∙ length-replicate n idle_record ∙ sym (within e)) ∙ all-idle)
              ∙ ap (λ (x : Gate). record { gate = x; list = replicate n idle_record }) (q ∙ ap (λ (o : Outcome). o.gate) w);
          answer_is = p ∙ ap (λ (o : Outcome). o.answer) w;
        }))
        (λ e. absurd (true≢false (ap is_ok (p ∙ ap (λ (o : Outcome). o.answer) (refused_beyond l e)))))
