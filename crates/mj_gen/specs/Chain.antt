-- The text of a model of a chain of links above a plane: each is a capsule on a hinge with a motor. This project's own.
use Rattle.std.specs.Prelude.{ℕ, ◌+◌, ◌-◌, ◌%◌, ◌==◌, cond, List, ◌++◌, codes, decimal}
use Rattle.fx_whole.specs.Joined.{joined}
use Rattle.fx_text.specs.Places.{padded}
use Rattle.mj_gen.specs.Numbers.{draw}

-- the options and the plane
abbrev pub world_text : List ℕ
world_text = codes "[option]\ntimestep = \"0.002\"\n\n[[geom]]\ntype = \"plane\"\n"

-- a line that ends in a name with a number
abbrev pub named : List ℕ → ℕ → List ℕ
named label i = (label ++ decimal i) ++ codes "\"\n"

-- the first link starts 0.5 above the plane, a quarter turn about y from upright
abbrev pub first_place : List ℕ
first_place = codes "pos = [0, 0, \"0.5\"]\nquat = [1, 0, 1, 0]\n"

-- a later link is at the end of its parent
abbrev pub later_place : ℕ → List ℕ
later_place parent = named (codes "parent = \"link") parent ++ codes "pos = [0, 0, \"-0.1\"]\n"

abbrev pub place_text : ℕ → List ℕ
place_text i = cond (i == 1) first_place (later_place (i - 1))

-- a mass of 0.05 and so many millionths
abbrev pub mass_text : ℕ → List ℕ
mass_text r = codes "0." ++ padded 6 (50000 + r)

abbrev pub inertial_text : ℕ → List ℕ
inertial_text r = (codes "inertial = { pos = [0, 0, \"-0.05\"], mass = \"" ++ mass_text r)
    ++ codes "\", diaginertia = [\"0.001\", \"0.001\", \"0.001\"] }\n"

-- a hinge of an odd link turns about y, of an even one about x
abbrev pub axis_text : ℕ → List ℕ
axis_text i = cond (i % 2 == 1) (codes "axis = [0, 1, 0]\n") (codes "axis = [1, 0, 0]\n")

abbrev pub joint_text : ℕ → List ℕ
joint_text i = (named (codes "[[body.joint]]\nname = \"j") i ++ axis_text i) ++ codes "range = [-2, 2]\ndamping = \"0.05\"\n"

abbrev pub geom_text : List ℕ
geom_text = codes "[[body.geom]]\ntype = \"capsule\"\nsize = [\"0.02\", \"0.03\"]\npos = [0, 0, \"-0.05\"]\n"

-- link i, from 1, whose mass is drawn as r
unfoldable pub link_text : ℕ → ℕ → List ℕ
link_text i r = (((named (codes "\n[[body]]\nname = \"link") i ++ place_text i) ++ inertial_text r) ++ joint_text i) ++ geom_text

-- the motor of link i
unfoldable pub motor_text : ℕ → List ℕ
motor_text i = named (codes "\n[[motor]]\njoint = \"j") i ++ codes "gear = \"0.1\"\nctrlrange = [-1, 1]\n"

-- the links, and then their motors
abbrev pub links_text : ℕ → ℕ → List ℕ
links_text seed links = joined links (λ k. link_text (k + 1) (draw seed (k + 1)))

abbrev pub motors_text : ℕ → List ℕ
motors_text links = joined links (λ k. motor_text (k + 1))

-- a chain of so many links, drawn from a seed
unfoldable pub chain_text : ℕ → ℕ → List ℕ
chain_text seed links = (world_text ++ links_text seed links) ++ motors_text links
