-- The claims are not empty: a list of calls with each answer of the layer, given by computation.
use Rattle.std.specs.Prelude.{◌≡◌, List, [], ◌∷◌, map, ℕ, replicate}
use Rattle.rules.specs.declared.Message.TheVariants.{Status, Sweep}
use Rattle.rules.specs.Words.{fresh_venue, with_series}
use Rattle.rules.specs.Settings.{percentage, enter_edition}
use Rattle.rules.specs.Messages.{encode_message}
use Rattle.rules.specs.Records.{answer}
use Rattle.rules.specs.Generation.{counted}
use Rattle.layer.specs.Layer.{Lane, Layer, Asked, arrival, turning, fresh_lane, fresh_layer, arrive, turn, after, after_all, lane_at}
use Rattle.layer.specs.Promises.{told_by}

-- the number of each call, and of each turn the venue that it served
unfoldable pub numbers : Layer → List Asked → List ℕ
numbers l [] = []
numbers l (arrival v m ∷ rest) = (arrive l v m).number ∷ numbers (after l (arrival v m)) rest
numbers l (turning room ∷ rest) = (turn l room).number ∷ numbers (after l (turning room)) rest

unfoldable pub served_by : Layer → List Asked → List ℕ
served_by l [] = []
served_by l (arrival v m ∷ rest) = served_by (after l (arrival v m)) rest
served_by l (turning room ∷ rest) = (turn l room).served ∷ served_by (after l (turning room)) rest

unfoldable pub session : List Asked
session =
    arrival 2 (encode_message Sweep) ∷ arrival 0 (encode_message (Status 0 1))
    -- any bytes may wait: a torn message, and none
    ∷ arrival 0 (9 ∷ 0 ∷ 6 ∷ []) ∷ arrival 3 []
    -- 18; 18 before 17; 17, over 32 bytes
    ∷ arrival 4 [] ∷ arrival 4 (replicate 33 0) ∷ arrival 1 (replicate 33 0) ∷ arrival 1 (replicate 32 0)
    -- 0 after 3; then 1, torn; then 10: 11 bytes hold no answer, and the same venue is tried again
    ∷ turning 100 ∷ turning 100 ∷ turning 11 ∷ turning 100
    -- 3 is given no bytes; then 0 again, and none is left
    ∷ turning 100 ∷ turning 100 ∷ turning 100
    ∷ []

-- eight for one venue, and the ninth
unfoldable pub eight : List Asked
eight = arrival 1 [] ∷ arrival 1 [] ∷ arrival 1 [] ∷ arrival 1 [] ∷ arrival 1 [] ∷ arrival 1 [] ∷ arrival 1 [] ∷ arrival 1 [] ∷ arrival 1 [] ∷ []

-- 9: the venue served last is 4; a message of 33 bytes waits, or a ninth message; a venue is unsound, or its next number not above that of an edition it keeps,
-- or of a generation
unfoldable pub beyond : Layer
beyond = record { lanes = fresh_layer.lanes; last = 4 }

unfoldable pub with_third : Lane → Layer
with_third c = record { lanes = fresh_lane ∷ fresh_lane ∷ c ∷ fresh_lane ∷ []; last = 3 }

unfoldable pub long : Layer
long = with_third (record { venue = fresh_venue; done = 0; wait = replicate 33 0 ∷ [] })

unfoldable pub crowded : Layer
crowded = with_third (record { venue = fresh_venue; done = 0; wait = replicate 9 [] })

unfoldable pub unsound : Layer
unsound = with_third (record { venue = with_series fresh_venue (replicate 8 (record { status = 3; bid = 0; offer = 0 })); done = 0; wait = [] })

-- an edition of message 5, so many messages done
unfoldable pub dated : (done : ℕ) → Layer
dated n = with_third (record { venue = enter_edition (record { edition = 1; message = 5; figure = percentage; value = 7 }) fresh_venue; done = n; wait = [] })

-- a generation of message 5
unfoldable pub busy : (done : ℕ) → Layer
busy n = with_third (record { venue = counted 5 0 fresh_venue; done = n; wait = [] })

pub record Witness : Type 0 where
  pub numbered : numbers fresh_layer session ≡ 0 ∷ 0 ∷ 0 ∷ 0 ∷ 18 ∷ 18 ∷ 17 ∷ 0 ∷ 0 ∷ 1 ∷ 10 ∷ 0 ∷ 1 ∷ 1 ∷ 0 ∷ []
  pub served : served_by fresh_layer session ≡ 0 ∷ 1 ∷ 4 ∷ 2 ∷ 3 ∷ 0 ∷ 4 ∷ []
  -- venue 0 tells of its own messages alone, numbered from 1
  pub told : told_by 0 fresh_layer session ≡ answer 1 0 0 0 ∷ answer 2 1 0 0 ∷ []
  pub counts : (lane_at (after_all fresh_layer session) 0).done ≡ 2
  pub full : numbers fresh_layer eight ≡ 0 ∷ 0 ∷ 0 ∷ 0 ∷ 0 ∷ 0 ∷ 0 ∷ 0 ∷ 17 ∷ []
  -- 9 before 18, and of a turn with none waiting
  pub nine : map (λ l. numbers l (arrival 4 [] ∷ turning 100 ∷ [])) (beyond ∷ long ∷ crowded ∷ unsound ∷ dated 4 ∷ busy 4 ∷ []) ≡ replicate 6 (9 ∷ 9 ∷ [])
  pub follows : map (λ l. numbers l (arrival 4 [] ∷ turning 100 ∷ [])) (dated 5 ∷ busy 5 ∷ []) ≡ replicate 2 (18 ∷ 0 ∷ [])
