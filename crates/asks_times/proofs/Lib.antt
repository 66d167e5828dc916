mod Forces
