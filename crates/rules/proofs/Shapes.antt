-- A message leaves the venue's arrays of their lengths, upon every venue: "At most 128 regular and 32 complex orders rest", "16 places", "up to 32 editions".
use mathlib.Core.Path.{◌≡◌, ◌∙◌}
use mathlib.Core.Bool.{◌&&◌}
use mathlib.Core.List.{List}
use Prim.Native.Nat.{ℕ}
use lib.Dec.{eqb}
use lib.ListN.{length, length-set}
use Rattle.rules.specs.declared.Complex.{Complex}
use Rattle.rules.specs.declared.Legging.{Legging}
use Rattle.rules.specs.declared.Venue.{Venue}
use Rattle.rules.specs.declared.Message.{Message}
use Rattle.rules.specs.declared.Message.TheVariants.{Order, TwoLeg, Cancel, Away, Status, Sweep, Increment, Percent, LimitedSweep}
use Rattle.rules.specs.Base.{held}
use Rattle.rules.specs.Words.{no_regular, no_complex, with_regular, with_complex, with_legging, with_series, with_editions, with_generations, with_last, with_reached}
use Rattle.rules.specs.Settings.{enter_edition}
use Rattle.rules.specs.Messages.{message_of}
use Rattle.rules.specs.Effects.{Effect, nothing, report, ◌⟫◌}
use Rattle.rules.specs.Removal.{remove}
use Rattle.rules.specs.Standing.{show_again}
use Rattle.rules.specs.Trading.{fill_regular, fill_complex, put_regular, put_complex}
use Rattle.rules.specs.Order.{order, enter_regular}
use Rattle.rules.specs.Generation.{counted, placed, makes, make, generate_leg, generate}
use Rattle.rules.specs.Complex.{work, complex, sweep, limited_sweep}
use Rattle.rules.specs.Places.{holds_regular, holds_complex, close_gaps}
use Rattle.rules.specs.Refusals.{refusal}
use Rattle.rules.specs.Step.{set_away, set_status, set_figure, perform, accept, answered, step}
use Rattle.rules.proofs.Again.{again-fewer}
use Rattle.rules.proofs.Cases.{if-by}
use Rattle.rules.proofs.Closing.{length-packed}
use Rattle.rules.proofs.EffectsLaws.{Lasts, keeps-each_of, keeps-settle, keeps-matching, keeps-work, keeps-cancel}
use Rattle.rules.proofs.Removing.{length-stayers}

pub record Sized (r c l s e g : ℕ) (v : Venue) : Type 0 where
  pub regular : length v.regular ≡ r
  pub complex : length v.complex ≡ c
  pub legging : length v.legging ≡ l
  pub series : length v.series ≡ s
  pub editions : length v.editions ≡ e
  pub generations : length v.generations ≡ g

module _ {r c l s e g : ℕ} where
  lasts : Lasts (Sized r c l s e g)
  unfolding fill_regular fill_complex remove show_again with_regular with_complex with_legging
  lasts = record {
    fill_r = λ i k v z. record {
      regular = length-set v.regular i _ ∙ z.regular;
      complex = z.complex;
      legging = z.legging;
      series = z.series;
      editions = z.editions;
      generations = z.generations;
    };
    fill_c = λ i k v z. record {
      regular = z.regular;
      complex = length-set v.complex i _ ∙ z.complex;
      legging = z.legging;
      series = z.series;
      editions = z.editions;
      generations = z.generations;
    };
    gone = λ f v z. record {
      regular = z.regular;
      complex = z.complex;
      legging = length-stayers f 0 v.legging ∙ z.legging;
      series = z.series;
      editions = z.editions;
      generations = z.generations;
    };
    again = λ v z. record { regular = (again-fewer v).same ∙ z.regular; complex = z.complex; legging = z.legging; series = z.series; editions = z.editions; generations = z.generations };
  }

  placed-sized : (n : ℕ) (x : Legging) (v : Venue) → Sized r c l s e g v → Sized r c l s e g (placed n x v)
  unfolding placed with_legging
  placed-sized n x v z = record {
    regular = z.regular;
    complex = z.complex;
    legging = length-set v.legging n x ∙ z.legging;
    series = z.series;
    editions = z.editions;
    generations = z.generations;
  }

  counted-sized : (number t : ℕ) (v : Venue) → Sized r c l s e g v → Sized r c l s e g (counted number t v)
  unfolding counted with_generations
  counted-sized number t v z = record {
    regular = z.regular;
    complex = z.complex;
    legging = z.legging;
    series = z.series;
    editions = z.editions;
    generations = length-set v.generations t _ ∙ z.generations;
  }

  leg-sized : (number : ℕ) (x : Complex) (t d : ℕ) (v : Venue) → Sized r c l s e g v → Sized r c l s e g (generate_leg number x t d v).venue
  unfolding generate_leg make report nothing ◌⟫◌
  leg-sized number x t d v z = if-by (λ (f : Effect). Sized r c l s e g f.venue) (held x.quantity && makes number v x t d)
      (λ _. counted-sized number t _ (placed-sized _ _ _ (lasts.gone _ v z))) (λ _. z)

  generate-sized : (number i : ℕ) (v : Venue) → Sized r c l s e g v → Sized r c l s e g (generate number i v).venue
  unfolding generate ◌⟫◌
  generate-sized number i v z = leg-sized number _ _ _ _ (leg-sized number _ _ _ v z)

  closed-sized : (v : Venue) → Sized r c l s e g v → Sized r c l s e g (close_gaps v)
  unfolding close_gaps with_regular with_complex
  closed-sized v z = record {
    regular = length-packed holds_regular no_regular v.regular ∙ z.regular;
    complex = length-packed holds_complex no_complex v.complex ∙ z.complex;
    legging = z.legging;
    series = z.series;
    editions = z.editions;
    generations = z.generations;
  }

  perform-sized : (number : ℕ) (m : Message) (v : Venue) → Sized r c l s e g v → Sized r c l s e g (perform number m v).venue
  unfolding perform order enter_regular put_regular complex put_complex sweep limited_sweep set_away set_status set_figure enter_edition with_regular
      with_complex with_series with_editions with_last with_reached report ◌⟫◌
  perform-sized number (Order o) v z =
      keeps-settle lasts _ (keeps-matching lasts _ _ _
      (record { regular = length-set v.regular _ o ∙ z.regular; complex = z.complex; legging = z.legging; series = z.series; editions = z.editions; generations = z.generations }))
  perform-sized number (TwoLeg x) v z =
      generate-sized number _ _ (keeps-settle lasts _ (keeps-work lasts _ _
      (record { regular = z.regular; complex = length-set v.complex _ x ∙ z.complex; legging = z.legging; series = z.series; editions = z.editions; generations = z.generations })))
  perform-sized number (Cancel id) v z = keeps-cancel lasts id v z
  perform-sized number (Away t b o) v z =
      keeps-settle lasts _ (record {
        regular = z.regular;
        complex = z.complex;
        legging = z.legging;
        series = length-set v.series t _
            ∙ z.series;
        editions = z.editions;
        generations = z.generations;
      })
  perform-sized number (Status t x) v z =
      keeps-settle lasts _ (record {
        regular = z.regular;
        complex = z.complex;
        legging = z.legging;
        series = length-set v.series t _
            ∙ z.series;
        editions = z.editions;
        generations = z.generations;
      })
  perform-sized number Sweep v z =
      keeps-each_of (Sized r c l s e g) (generate number) (generate-sized number) _ _ (keeps-settle lasts _ (keeps-each_of (Sized r c l s e g) work (keeps-work lasts) _ v z))
  perform-sized number (Increment t i k) v z =
      keeps-settle lasts _ (record {
        regular = z.regular;
        complex = z.complex;
        legging = z.legging;
        series = z.series;
        editions = length-set v.editions _ _ ∙ z.editions;
        generations = z.generations;
      })
  perform-sized number (Percent x k) v z =
      keeps-settle lasts _ (record {
        regular = z.regular;
        complex = z.complex;
        legging = z.legging;
        series = z.series;
        editions = length-set v.editions _ _ ∙ z.editions;
        generations = z.generations;
      })
  perform-sized number (LimitedSweep n) v z =
      keeps-each_of (Sized r c l s e g) (generate number) (generate-sized number) _ _
      (keeps-settle lasts _ (keeps-each_of (Sized r c l s e g) work (keeps-work lasts) _ _
      (record { regular = z.regular; complex = z.complex; legging = z.legging; series = z.series; editions = z.editions; generations = z.generations })))

  -- every step leaves the arrays of their lengths
  pub step-sized : (v : Venue) (number : ℕ) (bs : List ℕ) → Sized r c l s e g v → Sized r c l s e g (step v number bs).effect.venue
  unfolding step answered accept nothing ◌⟫◌
  step-sized v number bs z =
      if-by (λ (f : Effect). Sized r c l s e g f.venue) (eqb (refusal v bs) 0) (λ _. closed-sized _ (perform-sized number (message_of bs) v z)) (λ _. z)
