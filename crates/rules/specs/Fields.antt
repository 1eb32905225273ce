-- Each field of a place has its width.
use Rattle.std.specs.Prelude.{◌≡◌, ℕ, length, get_or}
use Rattle.rules.specs.declared.Regular.{Regular}
use Rattle.rules.specs.declared.Complex.{Complex}
use Rattle.rules.specs.declared.Legging.{Legging}
use Rattle.rules.specs.declared.Listed.{Listed}
use Rattle.rules.specs.declared.Edition.{Edition}
use Rattle.rules.specs.declared.Generations.{Generations}
use Rattle.rules.specs.Records.{OneByte, FourBytes, FourSigned}

pub record RegularFits (o : Regular) : Type 0 where
  pub id : FourBytes o.id
  pub series : OneByte o.series
  pub side : OneByte o.side
  pub price : FourBytes o.price
  pub quantity : FourBytes o.quantity
  pub display : FourBytes o.display
  pub reserve : FourBytes o.reserve

pub record ComplexFits (c : Complex) : Type 0 where
  pub id : FourBytes c.id
  pub series1 : OneByte c.series1
  pub side1 : OneByte c.side1
  pub series2 : OneByte c.series2
  pub side2 : OneByte c.side2
  pub class : OneByte c.class
  pub limit : FourSigned c.limit
  pub quantity : FourBytes c.quantity
  pub ratio1 : OneByte c.ratio1
  pub ratio2 : OneByte c.ratio2

pub record LeggingFits (l : Legging) : Type 0 where
  pub parent : FourBytes l.parent
  pub price : FourBytes l.price
  pub quantity : FourBytes l.quantity

pub record ListedFits (x : Listed) : Type 0 where
  pub status : OneByte x.status
  pub bid : FourBytes x.bid
  pub offer : FourBytes x.offer

pub record EditionFits (e : Edition) : Type 0 where
  pub edition : FourBytes e.edition
  pub message : FourBytes e.message
  pub figure : OneByte e.figure
  pub value : OneByte e.value

pub record GenerationsFits (g : Generations) : Type 0 where
  pub many : length g.messages ≡ 20
  pub messages : (k : ℕ) → FourBytes (get_or g.messages k 0)
