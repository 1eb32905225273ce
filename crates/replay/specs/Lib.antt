-- A sheet replayed (Replay), what holds of every trade and cross at its moment (Moments), that this is not empty (Witness), and wrong sheets that it refuses (NegativeWitness).
pub mod Replay
pub mod Moments
pub mod Witness
pub mod NegativeWitness
