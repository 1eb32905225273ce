-- What a host sees of the calls upon the layer in its memory.
use Rattle.std.specs.Prelude.{◌≡◌, List, [], ◌∷◌, ℕ, ◌+◌, ◌*◌, eqb, length, set, if◌then◌else◌}
use Rattle.rules.specs.Records.{sheet}
use Rattle.layer.specs.Layer.{Turned, Asked, arrival, turning, fresh_layer, arrive, turn, after_all}
use Rattle.dispatch.specs.declared.TurnReturned.{TurnReturned}
use Rattle.lanes.specs.Memory.{last_at, layer_size, lane_part, layer_from, layer_bytes, with_part, joined_bytes, head_called, advanced_bytes}

-- A fresh layer -------------------------------------------------------------------------------

-- a number, and the layer's memory
pub record Reply : Type 0 where
  pub number : ℕ
  pub memory : List ℕ

abbrev pub reply_of : (number : ℕ) (memory : List ℕ) → Reply
reply_of n m = record { number = n; memory = m }

-- a memory of another length can hold no layer: 9
unfoldable pub fresh_held : (memory : List ℕ) → Reply
fresh_held m = if eqb (length m) layer_size then reply_of 0 (layer_bytes fresh_layer) else reply_of 9 m

-- A message arrives ---------------------------------------------------------------------------

unfoldable pub arrive_held : (memory : List ℕ) (venue : ℕ) (message : List ℕ) → Reply
arrive_held m v b =
    let x = (arrive (layer_from m) v b).number in
    if eqb (length m) layer_size then reply_of x (if eqb x 0 then with_part m v (joined_bytes (lane_part m v) b) else m) else reply_of 9 m

-- A turn --------------------------------------------------------------------------------------

-- what a turn returns, the layer's memory and the report's
pub record TurnReply : Type 0 where
  pub returned : TurnReturned
  pub memory : List ℕ
  pub report : List ℕ

abbrev pub turn_reply_of : TurnReturned → (memory report : List ℕ) → TurnReply
turn_reply_of r m l = record { returned = r; memory = m; report = l }

-- of a turn that serves no venue
abbrev pub idle_returned : (number : ℕ) → TurnReturned
idle_returned n = record { number = n; done = 0; written = 0; served = 4 }

-- the memory after venue v was served
unfoldable pub served_bytes : (memory : List ℕ) (venue room : ℕ) → List ℕ
served_bytes m v room =
    let r = (head_called (lane_part m v) room).returned in
    set (with_part m v (advanced_bytes (lane_part m v) r.number r.venue)) last_at v

unfoldable pub turn_leaves : (memory : List ℕ) (room : ℕ) → Turned → TurnReply
turn_leaves m room t =
    turn_reply_of (record { number = t.number; done = t.done; written = t.written; served = t.served })
    (if eqb t.served 4 then m else served_bytes m t.served room) t.report

unfoldable pub turn_held : (memory : List ℕ) (room : ℕ) → TurnReply
turn_held m room =
    if eqb (length m) layer_size then turn_leaves m room (turn (layer_from m) room)
    else turn_reply_of (idle_returned 9) m (sheet room [])

-- The same for a host in C: number and venue served as one number, and both memories.
pub record ToldTurn : Type 0 where
  pub told : ℕ
  pub memory : List ℕ
  pub report : List ℕ

abbrev pub told_of : (told : ℕ) (memory report : List ℕ) → ToldTurn
told_of n m r = record { told = n; memory = m; report = r }

unfoldable pub host_turn : TurnReply → ToldTurn
host_turn t = told_of (t.returned.number + 256 * t.returned.served) t.memory t.report

-- The calls upon a memory are those upon the layer that it holds --------------------------------

unfoldable pub memory_after : (memory : List ℕ) → Asked → List ℕ
memory_after m (arrival v b) = (arrive_held m v b).memory
memory_after m (turning room) = (turn_held m room).memory

unfoldable pub memory_after_all : (memory : List ℕ) → List Asked → List ℕ
memory_after_all m [] = m
memory_after_all m (a ∷ rest) = memory_after_all (memory_after m a) rest

pub record Held : Type 0 where
  -- the first memory holds the fresh layer
  pub first : (memory : List ℕ) → length memory ≡ layer_size → layer_from (fresh_held memory).memory ≡ fresh_layer
  -- and after every list of calls a memory holds the layer after them
  pub next : (memory : List ℕ) (list : List Asked) → length memory ≡ layer_size → layer_from (memory_after_all memory list) ≡ after_all (layer_from memory) list
