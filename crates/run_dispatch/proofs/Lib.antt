-- The modules of the crate's proofs that several functions cite.
mod Laws
