pub mod FatesAlong
