-- The keeper's power-up, with what the bench gives it. Assumes nothing.
use Rattle.std.proofs.Common.{◌≡◌, ℕ, List, Ok, Err, ap, ◌∙◌, replicate}
use Rattle.protocol.specs.Types.{this_firmware}
use Rattle.octets.specs.Limits.{part_limit}
use Rattle.stops.specs.declared.Stop.{Stop}
use Rattle.protocol.specs.Operations.{Begin, power_up}
use Rattle.keeper.specs.View.{view_powered_up, powers_up}
use Rattle.keeper.specs.declared.types.PoweredUp.{PoweredUp}
use Rattle.trace.specs.Trace.{bench_pages, bench_slots, nonce_of, powering_up}
use Rattle.trace.specs.View.{Starts}

module _ (key ring fram staging staging' state' nonce : List ℕ) (v : ℕ) (n : nonce ≡ nonce_of v) where
  by_nonce : power_up this_firmware ring fram (powers_up bench_pages bench_slots key nonce staging (replicate part_limit 0)) ≡ power_up this_firmware ring fram (powering_up key v staging)
  by_nonce = λ i. power_up this_firmware ring fram (powers_up bench_pages bench_slots key (n i) staging (replicate part_limit 0))

  pub power_up_starts : (p : PoweredUp) → view_powered_up (Ok p) staging' state' ≡ power_up this_firmware ring fram (powers_up bench_pages bench_slots key nonce staging (replicate part_limit 0))
      → Starts (Ok p.job) staging' (power_up this_firmware ring fram (powering_up key v staging))
  power_up_starts p e =
      let f = e ∙ by_nonce in
      record { answer = ap (λ (y : Begin). y.answer) f; job = ap (λ (y : Begin). y.job) f; sealed = ap (λ (y : Begin). y.staging) f }

  pub power_up_stops : (s : Stop) → view_powered_up (Err s) staging' state' ≡ power_up this_firmware ring fram (powers_up bench_pages bench_slots key nonce staging (replicate part_limit 0))
      → Starts (Err s) staging' (power_up this_firmware ring fram (powering_up key v staging))
  power_up_stops s e =
      let f = e ∙ by_nonce in
      record { answer = ap (λ (y : Begin). y.answer) f; job = ap (λ (y : Begin). y.job) f; sealed = ap (λ (y : Begin). y.staging) f }
