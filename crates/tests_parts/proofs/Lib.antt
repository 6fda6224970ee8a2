-- Definitions of the parts of a step at examples that were worked by hand. The numbers are raw, and come from outside this repository's
-- code. A pendulum of two links, of point masses of 1 kg at the ends of massless rods of 1 m along x, with hinges about y, and gravity of
-- 8 m/s^2 along -z, is that of several files.
pub mod Contacts
pub mod Duals
pub mod Factors
pub mod Forces
pub mod Motions
pub mod Placings
pub mod Rows
