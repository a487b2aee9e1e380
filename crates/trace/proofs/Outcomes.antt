-- What running a trace comes to, by its check. Assumes nothing.
use Rattle.std.proofs.Common.{ℕ, ◌*◌, ◌%◌, ◌≤◌, Ok, Err, ◌≡◌, refl, sym, ap, subst, ◌∙◌, Bool, true, false, not, cond, ◌||◌, List, arith, eqb, ltb, length, eq-eqb, le-ltb, eqb-true, ltb-false}
use mathlib.Core.Option.{Option, none, some}
use borrow.Author.Tests.{not-false}
use Rattle.octets.specs.Limits.{trace_limit}
use Rattle.octets.specs.Octets.{put}
use Rattle.stops.specs.Stops.{first_of}
use Rattle.stops.specs.View.{stop_number}
use Rattle.stops.specs.declared.Stop.{Stop}
use Rattle.stops.proofs.Laws.{passes, neither}
use Rattle.ring_line.specs.Text.{refused_line}
use Rattle.trace_words.specs.Words.{words_of, words_wrong, trace_wrong}
use Rattle.trace.specs.Trace.{ring_length, fram_length, text_length, Run, key_refused, trace_stop, run_by, run_trace, output}
use Rattle.trace.specs.View.{view_traced, Ran}

module _ (key trace ring fram text : List ℕ) where
  pub trace_passes : none ≡ trace_stop key trace ring fram text
      → (length trace ≤ 4 * trace_limit) × (length ring ≡ ring_length) × (length fram ≡ fram_length) × (text_length ≤ length text)
  unfolding trace_stop trace_wrong
  trace_passes e =
      let p = passes _ (sym e) in
      let t = neither (not (eqb (length trace % 4) 0)) (ltb (4 * trace_limit) (length trace)) (neither (not (eqb (length trace % 4) 0) || ltb (4 * trace_limit) (length trace)) (words_wrong false (words_of trace)) p.1.1.1.1.0).0 in (
        ltb-false (4 * trace_limit) (length trace) t.1,
        eqb-true (length ring) ring_length (not-false _ p.0),
        eqb-true (length fram) fram_length (not-false _ p.1.0),
        ltb-false (length text) text_length p.1.1.1.0,
      )

  pub refused_run : (s : Stop) → some (stop_number s) ≡ trace_stop key trace ring fram text → view_traced (Err s) ring fram text ≡ run_trace key trace ring fram text
  unfolding run_trace run_by
  refused_run s e = ap (λ (o : Option ℕ). run_by o key trace ring fram text) e

  pub passed_run : (ring' fram' text' : List ℕ) (n : ℕ) → none ≡ trace_stop key trace ring fram text → Ran key (words_of trace) text n ring' fram' text'
      → view_traced (Ok n) ring' fram' text' ≡ run_trace key trace ring fram text
  unfolding run_trace run_by
  passed_run ring' fram' text' n e r =
      (λ i. record { stop = none; written = r.long i; ring = r.ring i; fram = r.fram i; text = r.lines_put i })
      ∙ ap (λ (o : Option ℕ). run_by o key trace ring fram text) e

-- ---- what is printed

-- what a run in buffers of the right lengths leaves to print
pub record Prints (key trace text : List ℕ) (r : Run) : Type 0 where
  pub ran : r.stop ≡ none → (r.text ≡ put text 0 (output key trace)) × (r.written ≡ length (output key trace))
  pub refused : (n : ℕ) → r.stop ≡ some n → (r.text ≡ text) × (refused_line n ≡ output key trace)

module _ (key trace ring fram text : List ℕ) (lr : length ring ≡ ring_length) (lf : length fram ≡ fram_length) (lt : text_length ≤ length text) where
  stop_is : trace_stop key trace ring fram text ≡ cond (key_refused key) (some 3) (cond (trace_wrong trace) (some 20) none)
  unfolding trace_stop first_of
  stop_is = rw (eq-eqb (length ring) ring_length lr, eq-eqb (length fram) fram_length lf, le-ltb (length text) text_length lt)

  -- by the key's condition and the trace's
  prints_by : (k b : Bool) → key_refused key ≡ k → trace_wrong trace ≡ b → Prints key trace text (run_by (cond k (some 3) (cond b (some 20) none)) key trace ring fram text)
  unfolding run_by output
  prints_by true b f e = record {
    ran = λ q. absurd (let z : ◌≡◌ {A = ℕ} 0 1 = cc in omega arith);
    refused = λ n q. (refl, let z : n ≡ 3 = cc in rw (f, z));
  }
  prints_by false true f e = record {
    ran = λ q. absurd (let z : ◌≡◌ {A = ℕ} 0 1 = cc in omega arith);
    refused = λ n q. (refl, let z : n ≡ 20 = cc in rw (f, e, z));
  }
  prints_by false false f e = record {
    ran = λ q. (rw (f, e), rw (f, e));
    refused = λ n q. absurd (let z : ◌≡◌ {A = ℕ} 0 1 = cc in omega arith);
  }

  pub prints : (r : Run) → r ≡ run_trace key trace ring fram text → Prints key trace text r
  unfolding run_trace
  prints r e =
      subst (λ (y : Run). Prints key trace text y) (sym (e ∙ ap (λ (o : Option ℕ). run_by o key trace ring fram text) stop_is)) (prints_by (key_refused key) (trace_wrong trace) refl refl)
