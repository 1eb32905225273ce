-- Laws of the layer in memory, in the order in which each file uses the ones before it.
--
--   Bytes      bytes in the place of others, and a part lent and put back
--   Figures    a wait's figures, the venue to serve, and the checks lane by lane
--   Checking   the checks but one, and the layer's soundness
--   Lent       a lane of the layer lent and put back
--   Places     a message in its place
--   WaitJoined  a message at the end of a wait
--   HeadCalled  the head of a wait done by a call
--   Fresh      the layer's bytes read back, and the fresh layer's
--   MemoryLaws  what each small function writes
pub mod Bytes
pub mod Figures
pub mod ChecksLaws
pub mod Lent
pub mod Places
pub mod WaitJoined
pub mod HeadCalled
pub mod Fresh
pub mod MemoryLaws
