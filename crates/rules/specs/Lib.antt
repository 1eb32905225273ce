-- Document 01 as definitions, and what document 02 adds to them: a file for each section; each uses only the ones before it.
--
--   "Words and ranges"                       Words
--   "Message and record bytes"               Bytes, Messages, Records
--   "Refusals": 1 to 8, 02 (d)'s 11 to 13,   Refusals; 9 and 10, and the two calls: Calls
--     02 (g)'s 14
--   "Prices of a side"                       Prices
--   "Order (kind 1)", 02 (e)'s kind 9        Order; the trades that it and a complex order have in common: Trading
--   "Standing test and settling"             Standing, with 02 (e)'s showing again; legging orders that go, whatever the cause: Removal
--   "Complex (kind 2)", "Sweep", "Cancel",   Complex
--     02 (g)'s kind 10, 02 (m)'s kind 11
--   "Generation of a leg", 02 (m)'s ceiling  Generation
--   each kind's effect, and its 64           Step
--   "A venue is sound when …"                Sound
--   Demand 3's sums over the records         Sums
--   02 (d), the figures in force             Settings; the call that tells them: Calls
--   02 (c), lengths and rounding             Messages (KindLengths), Prices (DisplayedRounds)
--   "Trials"                                 Trials: each definition above at work, with what 01 says must come out
--
-- Not 01's: Base (choice, the first in rank), Effects (venue and records, one step after another), Places (how places are arranged),
-- Lengths (bounds of what one message writes), Fields (the width of each field of a place), Opened (all names, for a statement that
-- computes). Regular, Complex, Legging, Listed, Venue and the other records are the types of src/lib.rt.
--
-- The notation:
--   f x y                     f of x and y;  c.limit is the field limit of c;  (λ n l. e) is the function of n and l that gives e
--   x ∷ xs, [], xs ++ ys      a list with x first, the empty one, one list after another
--   pos n, negsuc n           the integers n and -(n + 1);  +ℤ, -ℤ, *ℤ, negℤ are their operations
--   leb, ltb, eqb, le_z, lt_z   the tests ≤, <, = of numbers, and ≤, < of integers;  &&, ||, not join them
--   elim x [ a ↦ e | b ↦ g ]  e or g, by which case of its type x is
--   get_d l i x, set l i y     the element of l at place i, x past the end;  l with y at place i
--   e ⟫ f                     the effect e, and then f upon the venue that e left; the records come in that order
--   held q                    q is not 0: a place holds an order while its quantity is held, a price is there while it is held
--   fuel                      a bound on the turns of a loop, named where it is given and large enough for every turn there can be
--   x ≡ y, x ≢ y              x is y, x is not y, as a statement
--   A × B, A ⊎ B, Unit        both statements;  one of them;  the statement that always holds
--   (n : ℕ) → A               for every number n, A;  A → B: if A then B;  List-as-Memᴰ x xs: x is in the list xs
--   record { f = x; g = y }   the record whose field f is x and whose field g is y
--   record R … where          a statement that has these parts, or a type with these fields
--   unfoldable, abbrev        a definition that a proof opens by name, or one that is always open;  pub: seen by other files
pub mod Base
pub mod Words
pub mod Settings
pub mod Bytes
pub mod Messages
pub mod Records
pub mod Effects
pub mod Prices
pub mod Removal
pub mod Standing
pub mod Trading
pub mod Order
pub mod Generation
pub mod Complex
pub mod Places
pub mod Refusals
pub mod Step
pub mod Sound
pub mod Calls
pub mod Sums
pub mod Lengths
pub mod Fields
pub mod Opened
pub mod Trials
